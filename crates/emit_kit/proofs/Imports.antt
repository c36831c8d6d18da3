-- What is imported of a kind, counted.
use Rattle.std.proofs.Common.{◌≡◌, ◌+◌, Bool, cond, List, [], ◌∷◌, length, Option, Some, None, refl, ap, sym, ◌∙◌, zero-add, is_some}
use Rattle.std.specs.Prelude.{filter_map, count_by}
use Rattle.std.proofs.Math.Numerals.{one-add}
use Rattle.std.specs.List.{cons_option}
use Rattle.std.proofs.lemmas.List.Sums.{sum_by-cons}
use Rattle.wasm_ast.specs.declared.module.parts.ImportDesc.{ImportDesc}
use Rattle.wasm_ast.specs.declared.module.parts.ImportDesc.TheVariants.{Func, Table, Memory, Global, Tag}
use Rattle.wasm_ast.specs.declared.module.parts.Module.{Module}
use Rattle.wasm_ast.specs.Spaces.{func_import, imported, is_func, is_global}
use Rattle.typed_trees.specs.Modules.{imported_of, global_import}

module _ {X Y : Type 0} (f : X → Option Y) (p : X → Bool) (same : (x : X) → is_some (f x) ≡ p x) where
  one_more : (o : Option Y) (ys : List Y) → length (cons_option o ys) ≡ cond (is_some o) 1 0 + length ys
  one_more None ys = sym (zero-add (length ys))
  one_more (Some y) ys = sym (one-add (length ys))

  length-filter_map : (xs : List X) → length (filter_map f xs) ≡ count_by p xs
  length-filter_map [] = refl
  length-filter_map (x ∷ xs) =
      one_more (f x) (filter_map f xs) ∙ ap (λ n. cond (is_some (f x)) 1 0 + n) (length-filter_map xs) ∙ ap (λ b. cond b 1 0 + count_by p xs) (same x) ∙ sym (sum_by-cons (λ x. cond (p x) 1 0) x xs)

func_told : (d : ImportDesc) → is_some (func_import d) ≡ is_func d
func_told (Func t) = refl
func_told (Table t l) = refl
func_told (Memory l) = refl
func_told (Global t m) = refl
func_told (Tag t) = refl

global_told : (d : ImportDesc) → is_some (global_import d) ≡ is_global d
global_told (Func t) = refl
global_told (Table t l) = refl
global_told (Memory l) = refl
global_told (Global t m) = refl
global_told (Tag t) = refl

pub imported_funcs : (m : Module) → length (filter_map (λ i. func_import i.desc) m.imports) ≡ imported is_func m
imported_funcs m = length-filter_map (λ i. func_import i.desc) (λ i. is_func i.desc) (λ i. func_told i.desc) m.imports

pub imported_globals : (m : Module) → length (imported_of global_import m) ≡ imported is_global m
imported_globals m = length-filter_map (λ i. global_import i.desc) (λ i. is_global i.desc) (λ i. global_told i.desc) m.imports
