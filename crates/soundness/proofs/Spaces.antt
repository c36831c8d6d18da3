-- Index spaces: what is imported comes first.
use Rattle.std.proofs.Common.{◌≡◌, ℕ, zero, suc, ◌+◌, ◌-◌, ◌<◌, ◌≤◌, true, List, [], ◌∷◌, ◌++◌, map, length, Option, Some, None, option_map, refl, sym, ap, ◌∙◌, arith}
use Rattle.std.specs.Prelude.{slice_get, filter_map, count_by, cond, option_and_then}
use Rattle.std.specs.List.{cons_option}
use Rattle.std.proofs.lemmas.List.{map-append}
use Rattle.std.proofs.lemmas.List.Sums.{sum_by-cons}
use Rattle.std.proofs.lemmas.Option.{slice_get-map}
use Rattle.host_kit.specs.Offered as offered
use Rattle.wasm_ast.specs.Spaces.{func_import}
use Rattle.wasm_ast.specs.declared.module.ty.Ty.{Ty}
use Rattle.wasm_ast.specs.declared.module.parts.Import.{Import}
use Rattle.wasm_ast.specs.declared.module.parts.ImportDesc.{ImportDesc}
use Rattle.wasm_ast.specs.declared.module.parts.ImportDesc.TheVariants as imports
use Rattle.wasm_ast.specs.declared.module.parts.Global.{Global}
use Rattle.wasm_ast.specs.declared.module.parts.Module.{Module}
use Rattle.typed_trees.specs.declared.global_type.GlobalType.{GlobalType}
use Rattle.typed_trees.specs.Modules.{global_import, global_type, all_globals}
use Rattle.meaning_new.specs.Forms.{is_func, imported_funcs}

-- an item of a list before another, and of one behind another
pub get_before : {A : Type 0} (xs ys : List A) (i : ℕ) → i < length xs → slice_get (xs ++ ys) i ≡ slice_get xs i
get_before [] ys i h = let no : ⊥ = omega arith in absurd no
get_before (x ∷ xs) ys zero h = refl
get_before (x ∷ xs) ys (suc i) h = let less : i < length xs = omega arith in get_before xs ys i less

pub get_behind : {A : Type 0} (xs ys : List A) (i : ℕ) → length xs ≤ i → slice_get (xs ++ ys) i ≡ slice_get ys (i - length xs)
get_behind [] ys i h = let same : i ≡ i - 0 = omega arith in ap (slice_get ys) same
get_behind (x ∷ xs) ys zero h = let no : ⊥ = omega arith in absurd no
get_behind (x ∷ xs) ys (suc i) h =
    let less : length xs ≤ i = omega arith in
    let same : i - length xs ≡ suc i - suc (length xs) = omega arith in
    get_behind xs ys i less ∙ ap (slice_get ys) same

-- what is looked up by way of another look-up
pub by_way : {A B : Type 0} (f : A → Option B) (o : Option A) (y : B) → option_and_then f o ≡ Some y → (x : A) × (o ≡ Some x) × (f x ≡ Some y)
by_way f None y h = let no : ⊥ = cc in absurd no
by_way f (Some x) y h = (x, refl, h)

-- how many functions are imported
counts : (d : ImportDesc) (l : List ℕ) (n : ℕ) → length l ≡ n → length (cons_option (func_import d) l) ≡ cond (is_func d) 1 0 + n
counts (imports.Func t) l n e = let r : suc (length l) ≡ 1 + n = omega arith in r
counts d l n e = let r : length l ≡ 0 + n = omega arith in r

count_imports : (is : List Import) → length (filter_map (λ i. func_import i.desc) is) ≡ count_by (λ i. is_func i.desc) is
count_imports [] = refl
count_imports (i ∷ is) = counts i.desc (filter_map (λ j. func_import j.desc) is) (count_by (λ j. is_func j.desc) is) (count_imports is) ∙ sym (sum_by-cons (λ j. cond (is_func j.desc) 1 0) i is)

pub imported_count : (m : Module) → length (filter_map (λ i. func_import i.desc) m.imports) ≡ imported_funcs m
imported_count m = count_imports m.imports

-- the types of globals, as the host sees them
module _ {G : Type 0} (import_of : ImportDesc → Option G) (own : Global → G) (seen : G → GlobalType) (sees_import : (d : ImportDesc) → option_map seen (import_of d) ≡ global_import d) (sees_own : (g : Global) → seen (own g) ≡ global_type g) where
  seen_import : (o : Option G) (l : List GlobalType) (k : List G) → l ≡ map seen k → cons_option (option_map seen o) l ≡ map seen (cons_option o k)
  seen_import None l k e = e
  seen_import (Some g) l k e = ap (λ x. seen g ∷ x) e

  seen_imports : (is : List Import) → filter_map (λ i. global_import i.desc) is ≡ map seen (filter_map (λ i. import_of i.desc) is)
  seen_imports [] = refl
  seen_imports (i ∷ is) =
      ap (λ o. cons_option o (filter_map (λ j. global_import j.desc) is)) (sym (sees_import i.desc))
      ∙ seen_import (import_of i.desc) (filter_map (λ j. global_import j.desc) is) (filter_map (λ j. import_of j.desc) is) (seen_imports is)

  seen_own : (gs : List Global) → map global_type gs ≡ map seen (map own gs)
  seen_own [] = refl
  seen_own (g ∷ gs) = ap (λ x. x ∷ map global_type gs) (sym (sees_own g)) ∙ ap (λ l. seen (own g) ∷ l) (seen_own gs)

  globals_seen : (m : Module) → all_globals m ≡ map seen (filter_map (λ i. import_of i.desc) m.imports ++ map own m.globals)
  globals_seen m =
      ap (λ l. l ++ map global_type m.globals) (seen_imports m.imports)
      ∙ ap (λ l. map seen (filter_map (λ i. import_of i.desc) m.imports) ++ l) (seen_own m.globals)
      ∙ sym (map-append seen (filter_map (λ i. import_of i.desc) m.imports) (map own m.globals))

  global_seen : (m : Module) (x : ℕ) (g : G) → slice_get (filter_map (λ i. import_of i.desc) m.imports ++ map own m.globals) x ≡ Some g → slice_get (all_globals m) x ≡ Some (seen g)
  global_seen m x g e = ap (λ l. slice_get l x) (globals_seen m) ∙ slice_get-map seen (filter_map (λ i. import_of i.desc) m.imports ++ map own m.globals) x ∙ ap (option_map seen) e

sees_import : (d : ImportDesc) → option_map (λ g. record { ty = g.ty; mutable = g.mutable }) (offered.imported_global d) ≡ global_import d
sees_import (imports.Global t mutable) = refl
sees_import d = refl

-- the type of a global that the host may set
pub global_offered : (m : Module) (x : ℕ) (t : Ty) → slice_get (offered.all_globals m) x ≡ Some (record { ty = t; mutable = true }) → slice_get (all_globals m) x ≡ Some (record { ty = t; mutable = true })
global_offered m x t e = global_seen offered.imported_global (λ g. record { ty = g.ty; mutable = g.mutable }) (λ g. record { ty = g.ty; mutable = g.mutable }) sees_import (λ g. refl) m x (record { ty = t; mutable = true }) e
