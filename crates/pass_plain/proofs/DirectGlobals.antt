-- Where no constant expression computes and all globals are integers, each initial value folds: no code sets a global.
use Rattle.std.proofs.Common.{◌≡◌, ℕ, zero, suc, ◌+◌, ◌<◌, ◌≤◌, Bool, true, false, not, List, [], ◌∷◌, ◌++◌, map, length, Option, Some, None, option_map, refl, sym, ap, ◌∙◌, subst, arith, if◌then◌else◌}
use Rattle.std.specs.Prelude.{slice_get, filter_map, option_and_then}
use Rattle.std.specs.List.{AllByRecursion, cons_option, enumerate_from, list_any}
use Rattle.std.proofs.lemmas.Bool.{ltb-true}
use Rattle.std.proofs.lemmas.List.{length-append}
use Rattle.wasm_ast.specs.Features.{type_shows}
use Rattle.wasm_ast.specs.Fold.{folded_type, known_at, after_instr, after_code, only, fold_of, of_type, known_imports, with_own, known_globals}
use Rattle.wasm_ast.specs.Has.{is_simple, is_one_simple}
use Rattle.wasm_ast.specs.Marking.{is_marked}
use Rattle.wasm_ast.specs.Occurrence.{head}
use Rattle.wasm_ast.specs.Spaces as spaces
use Rattle.wasm_ast.specs.Spaces.{is_global, imported}
use Rattle.wasm_ast.specs.Types.{same_type}
use Rattle.wasm_ast.specs.declared.features.kind.Feature.TheVariants as features
use Rattle.wasm_ast.specs.declared.folding.folded.Folded.{Folded}
use Rattle.wasm_ast.specs.declared.folding.folded.Folded.TheVariants.{I32, I64, Imported}
use Rattle.wasm_ast.specs.declared.module.code.Instr.{Instr, out-Instr}
use Rattle.wasm_ast.specs.declared.module.code.Instr.TheOpen.{Instr-F}
use Rattle.wasm_ast.specs.declared.module.op.Op.TheVariants as ops
use Rattle.wasm_ast.specs.declared.module.parts.Global.{Global}
use Rattle.wasm_ast.specs.declared.module.parts.Import.{Import}
use Rattle.wasm_ast.specs.declared.module.parts.ImportDesc.{ImportDesc}
use Rattle.wasm_ast.specs.declared.module.parts.ImportDesc.TheVariants as imports
use Rattle.wasm_ast.specs.declared.module.parts.Module.{Module}
use Rattle.wasm_ast.specs.declared.module.ty.Ty.{Ty}
use Rattle.wasm_ast.specs.declared.module.ty.Ty.TheVariants as types
use Rattle.typing_kit.specs.Form.{Flat}
use Rattle.typed_trees.specs.declared.global_type.GlobalType.{GlobalType}
use Rattle.typed_trees.specs.Constants.{TypedConstant}
use Rattle.typed_trees.specs.Contexts.{is_value_type, is_reference_type}
use Rattle.typed_trees.specs.Forms.{InstrForm, layer_form, where_some, where_true}
use Rattle.typed_trees.specs.Modules.{early_context, global_import, global_type, imported_of, TypedGlobals}
use Rattle.stage_kit.proofs.Appending.{get_append}
use Rattle.pass_plain.specs.Folding.{set_global, set_globals, setting_code}
use Rattle.pass_plain.proofs.ConstantStart.{imports_counted}
use Rattle.pass_plain.proofs.ConstantTyping.{SameForm, one_form}
use Rattle.pass_plain.proofs.FoldedGlobals.{known_here, one_longer}
use Rattle.pass_plain.proofs.KnownAgain.{known_grows}
use Rattle.pass_plain.proofs.NothingNew.{none_of}
use Rattle.pass_plain.proofs.RegionKept.{false_not}

abbrev IsInt : Ty → Type 0
IsInt types.I32 = Unit {0}
IsInt types.I64 = Unit {0}
IsInt _ = ⊥

int_no_reference : (t : Ty) → IsInt t → is_reference_type t ≡ true → ⊥
int_no_reference types.I32 h e = let no : ⊥ = cc in no
int_no_reference types.I64 h e = let no : ⊥ = cc in no
int_no_reference t h e = h

-- a value type that is neither a vector nor a reference
number : (t : Ty) → is_value_type t ≡ true → type_shows features.Simd t ≡ false → type_shows features.Refs t ≡ false → type_shows features.Exceptions t ≡ false → IsInt t
unfolding type_shows
number types.I32 v s r e = tt
number types.I64 v s r e = tt
number types.F32 v s r e = let no : ⊥ = cc in absurd no
number types.F64 v s r e = let no : ⊥ = cc in absurd no
number types.V128 v s r e = let no : ⊥ = cc in absurd no
number types.Func v s r e = let no : ⊥ = cc in absurd no
number types.Extern v s r e = let no : ⊥ = cc in absurd no
number types.Exn v s r e = let no : ⊥ = cc in absurd no

same_self : (t : Ty) → same_type t t ≡ true
same_self types.I32 = refl
same_self types.I64 = refl
same_self types.F32 = refl
same_self types.F64 = refl
same_self types.V128 = refl
same_self types.Func = refl
same_self types.Extern = refl
same_self types.Exn = refl

-- forms of one value
null_form : (b : Bool) (u t : Ty) → SameForm (where_true b (Flat [] (u ∷ []))) (Flat [] (t ∷ [])) → (b ≡ true) × (u ≡ t)
null_form true u t e = let is : u ≡ t = cc in (refl, is)
null_form false u t e = let no : ⊥ = cc in absurd no

func_form : (o : Option ℕ) (b : Bool) (t : Ty) → SameForm (where_some o (λ i. where_true b (Flat [] (types.Func ∷ [])))) (Flat [] (t ∷ [])) → types.Func ≡ t
func_form None b t e = let no : ⊥ = cc in absurd no
func_form (Some i) b t e = (null_form b types.Func t e).1

get_form : (o : Option GlobalType) (t : Ty) → SameForm (where_some o (λ g. Flat [] (g.ty ∷ []))) (Flat [] (t ∷ [])) → (g : GlobalType) × (o ≡ Some g) × (g.ty ≡ t)
get_form None t e = let no : ⊥ = cc in absurd no
get_form (Some g) t e = let is : g.ty ≡ t = cc in (g, refl, is)

-- imported globals are known as what they are
abbrev ImportsKnown : ℕ → List GlobalType → List (Option Folded) → Type 0
ImportsKnown count before known = (j : ℕ) (g : GlobalType) → j < count → slice_get before j ≡ Some g → known_at known j ≡ Some (Imported j g.ty)

module _ (m : Module) (count : ℕ) where
  module _ (before : List GlobalType) (known : List (Option Folded)) (imported_known : ImportsKnown count before known) where
    layer_direct : (l : Instr-F Instr) (t : Ty) → is_simple count (head l) ≡ true → IsInt t → SameForm (layer_form (early_context m before) [] l) (Flat [] (t ∷ [])) → (v : Folded) × (option_and_then only (option_and_then (after_code known []) (after_instr known (head l) [])) ≡ Some v) × (folded_type v ≡ t)
    layer_direct (Instr-F.Pure (ops.I32Const n)) t s h f = let is : types.I32 ≡ t = (null_form true types.I32 t f).1 in (I32 n, refl, is)
    layer_direct (Instr-F.Pure (ops.I64Const n)) t s h f = let is : types.I64 ≡ t = (null_form true types.I64 t f).1 in (I64 n, refl, is)
    layer_direct (Instr-F.Pure (ops.V128Const v)) t s h f = absurd (subst IsInt (sym (null_form true types.V128 t f).1) h)
    layer_direct (Instr-F.Pure (ops.RefNull u)) t s h f = let e = null_form (is_reference_type u) u t f in absurd (int_no_reference u (subst IsInt (sym e.1) h) e.0)
    layer_direct (Instr-F.Pure (ops.RefFunc x)) t s h f = absurd (subst IsInt (sym (func_form (slice_get (early_context m before).funcs x) (is_marked (early_context m before).refs x) t f)) h)
    layer_direct (Instr-F.Pure op) t s h f = absurd cc
    layer_direct (Instr-F.GlobalGet j) t s h f =
        let g = get_form (slice_get before j) t f in
        (Imported j g.0.ty, ap (λ o. option_and_then only (option_and_then (after_code known []) (option_map (λ v. v ∷ []) o))) (imported_known j g.0 (ltb-true j count s) g.1), g.2)
    layer_direct l t s h f = absurd cc

    code_direct : (code : List Instr) (t : Ty) → is_one_simple count code ≡ true → TypedConstant (early_context m before) code t → IsInt t → (v : Folded) × (fold_of known code ≡ Some v) × (folded_type v ≡ t)
    code_direct [] t s h i = absurd cc
    code_direct (i ∷ []) t s h n = layer_direct (out-Instr i) t s n (one_form (early_context m before) i t h)
    code_direct (i ∷ (j ∷ more)) t s h n = absurd cc

    init_direct : (code : List Instr) (t : Ty) → is_one_simple count code ≡ true → TypedConstant (early_context m before) code t → IsInt t → (v : Folded) × (of_type t (fold_of known code) ≡ Some v)
    init_direct code t s h n =
        let d = code_direct code t s h n in
        (d.0, ap (of_type t) d.1 ∙ ap (λ b. if b then Some d.0 else None) (ap (same_type t) d.2 ∙ same_self t))

  known_more : (before : List GlobalType) (known : List (Option Folded)) (g : GlobalType) (k : Option Folded) → count ≤ length before → ImportsKnown count before known → ImportsKnown count (before ++ g ∷ []) (known ++ k ∷ [])
  known_more before known g k few h j i lt e =
      let there : j < length before = omega (arith, few, lt) in
      known_grows known (k ∷ []) j (Imported j i.ty) (h j i lt (sym (get_append before (g ∷ []) j there) ∙ e))

  -- the code that sets globals
  all_direct : (all known : List (Option Folded)) (before : List GlobalType) (gs : List Global) (x : ℕ) → with_own known gs ≡ all → x ≡ length known → count ≤ length before → ImportsKnown count before known → list_any (λ g. not (is_one_simple count g.init)) gs ≡ false → TypedGlobals m before gs → AllByRecursion (λ g. IsInt g.ty) gs → set_globals all x gs ≡ []
  all_direct all known before [] x e c few h s t n = refl
  all_direct all known before (g ∷ gs) x e c few h s t n =
      let k = of_type g.ty (fold_of known g.init) in
      let simple = none_of (not (is_one_simple count g.init)) (list_any (λ i. not (is_one_simple count i.init)) gs) s in
      let d = init_direct before known h g.init g.ty (false_not (is_one_simple count g.init) simple.0) t.0.init n.0 in
      let here : known_at all x ≡ k = ap (known_at all) c ∙ known_here known all g gs e in
      let longer = length-append before (global_type g ∷ []) in
      let more : count ≤ length (before ++ global_type g ∷ []) = omega (arith, few, longer) in
      ap (λ i. set_global x g.init i ++ set_globals all (x + 1) gs) (here ∙ d.1)
      ∙ all_direct all (known ++ k ∷ []) (before ++ global_type g ∷ []) gs (x + 1) e (ap (λ i. i + 1) c ∙ sym (one_longer known k)) more (known_more before known (global_type g) k few h) simple.1 t.1 n.1

-- imports
import_known : (gs : List GlobalType) (n j : ℕ) (g : GlobalType) → slice_get gs j ≡ Some g → known_at (map (λ p. Some (Imported p.0 p.1)) (enumerate_from n (map (λ i. i.ty) gs))) j ≡ Some (Imported (n + j) g.ty)
import_known [] n j g e = let no : ⊥ = cc in absurd no
import_known (h ∷ gs) n zero g e =
    let is : h ≡ g = cc in
    let sum : n ≡ n + 0 = omega arith in
    ap (λ (i : GlobalType). Some (Imported n i.ty)) is ∙ ap (λ i. Some (Imported i g.ty)) sum
import_known (h ∷ gs) n (suc j) g e =
    let sum : n + 1 + j ≡ n + suc j = omega arith in
    import_known gs (n + 1) j g e ∙ ap (λ i. Some (Imported i g.ty)) sum

pub imported_types : (is : List Import) → map (λ g. g.ty) (filter_map (λ i. global_import i.desc) is) ≡ filter_map (λ i. spaces.global_import i.desc) is
imported_types [] = refl
imported_types (i ∷ is) = one i.desc (filter_map (λ j. global_import j.desc) is) (filter_map (λ j. spaces.global_import j.desc) is) (imported_types is)
  where
    one : (d : ImportDesc) (gs : List GlobalType) (ts : List Ty) → map (λ g. g.ty) gs ≡ ts → map (λ g. g.ty) (cons_option (global_import d) gs) ≡ cons_option (spaces.global_import d) ts
    one (imports.Global t mutable) gs ts e = ap (λ l. t ∷ l) e
    one (imports.Func t) gs ts e = e
    one (imports.Table t l) gs ts e = e
    one (imports.Memory l) gs ts e = e
    one (imports.Tag t) gs ts e = e

known_length : (n : ℕ) (ts : List Ty) → length (map (λ p. Some (Imported p.0 p.1)) (enumerate_from n ts)) ≡ length ts
known_length n [] = refl
known_length n (t ∷ ts) = ap suc (known_length (n + 1) ts)

types_length : (gs : List GlobalType) → length (map (λ g. g.ty) gs) ≡ length gs
types_length [] = refl
types_length (g ∷ gs) = ap suc (types_length gs)

all_numbers : (m : Module) (before : List GlobalType) (gs : List Global) → TypedGlobals m before gs → list_any (λ g. type_shows features.Simd g.ty) gs ≡ false → list_any (λ g. type_shows features.Refs g.ty) gs ≡ false → list_any (λ g. type_shows features.Exceptions g.ty) gs ≡ false → AllByRecursion (λ g. IsInt g.ty) gs
all_numbers m before [] h s r e = tt
all_numbers m before (g ∷ gs) h s r e =
    let s' = none_of (type_shows features.Simd g.ty) (list_any (λ i. type_shows features.Simd i.ty) gs) s in
    let r' = none_of (type_shows features.Refs g.ty) (list_any (λ i. type_shows features.Refs i.ty) gs) r in
    let e' = none_of (type_shows features.Exceptions g.ty) (list_any (λ i. type_shows features.Exceptions i.ty) gs) e in
    (number g.ty h.0.type s'.0 r'.0 e'.0, all_numbers m (before ++ global_type g ∷ []) gs h.1 s'.1 r'.1 e'.1)

module _ (m : Module) where
  abbrev types_of : List Ty
  types_of = filter_map (λ i. spaces.global_import i.desc) m.imports

  pub known_counted : imported is_global m ≡ length (known_imports types_of)
  known_counted = sym (imports_counted m.imports) ∙ sym (known_length 0 types_of)

  -- so many globals are imported
  pub globals_counted : imported is_global m ≡ length (imported_of global_import m)
  globals_counted = sym (imports_counted m.imports) ∙ ap length (sym (imported_types m.imports)) ∙ types_length (imported_of global_import m)

  imports_known : ImportsKnown (imported is_global m) (imported_of global_import m) (known_imports types_of)
  imports_known j g lt e =
      let sum : 0 + j ≡ j = omega arith in
      ap (λ ts. known_at (known_imports ts) j) (sym (imported_types m.imports)) ∙ import_known (imported_of global_import m) 0 j g e ∙ ap (λ i. Some (Imported i g.ty)) sum

  -- The lemma.
  pub sets_nothing : list_any (λ g. not (is_one_simple (imported is_global m) g.init)) m.globals ≡ false → TypedGlobals m (imported_of global_import m) m.globals
      → list_any (λ g. type_shows features.Simd g.ty) m.globals ≡ false → list_any (λ g. type_shows features.Refs g.ty) m.globals ≡ false → list_any (λ g. type_shows features.Exceptions g.ty) m.globals ≡ false → setting_code m ≡ []
  sets_nothing simple typed s r e =
      let few : imported is_global m ≤ length (imported_of global_import m) = let c = globals_counted in omega (arith, c) in
      all_direct m (imported is_global m) (known_globals m) (known_imports types_of) (imported_of global_import m) m.globals (imported is_global m) refl known_counted few imports_known simple typed
      (all_numbers m (imported_of global_import m) m.globals typed s r e)
