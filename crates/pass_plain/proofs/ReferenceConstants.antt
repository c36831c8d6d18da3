-- Where no global holds a reference, a typed constant expression of a reference type reads no global: it is one instruction.
use Rattle.std.proofs.Common.{◌≡◌, ℕ, ◌+◌, ◌≤◌, Bool, true, false, ◌||◌, ◌⊎◌, inl, inr, List, [], ◌∷◌, ◌++◌, map, length, Option, Some, None, refl, sym, ap, ◌∙◌, subst, arith}
use Rattle.std.specs.Prelude.{slice_get, filter_map}
use Rattle.std.specs.List.{AllByRecursion, cons_option, list_all, list_any}
use Rattle.std.proofs.lemmas.List.{length-append}
use Rattle.num_core.specs.declared.operators.Width.{Width}
use Rattle.num_core.specs.declared.operators.Width.TheVariants.{W32, W64}
use Rattle.wasm_ast.specs.Features.{type_shows}
use Rattle.wasm_ast.specs.Places.{global_import_shows}
use Rattle.wasm_ast.specs.declared.features.kind.Feature.TheVariants as features
use Rattle.wasm_ast.specs.declared.module.code.Instr.{Instr, out-Instr}
use Rattle.wasm_ast.specs.declared.module.parts.Element.{Element}
use Rattle.wasm_ast.specs.declared.module.parts.Global.{Global}
use Rattle.wasm_ast.specs.declared.module.parts.Import.{Import}
use Rattle.wasm_ast.specs.declared.module.parts.ImportDesc.{ImportDesc}
use Rattle.wasm_ast.specs.declared.module.parts.ImportDesc.TheVariants as imports
use Rattle.wasm_ast.specs.declared.module.parts.Module.{Module}
use Rattle.wasm_ast.specs.declared.module.ty.Ty.{Ty}
use Rattle.wasm_ast.specs.declared.module.ty.Ty.TheVariants as types
use Rattle.typing_kit.specs.declared.operand.Operand.{Operand}
use Rattle.typing_kit.specs.Matching.{known, AllMatch}
use Rattle.typing_kit.specs.Typing as typing
use Rattle.typing_kit.specs.Typing.{Typed, TypedCode}
use Rattle.typed_trees.specs.declared.global_type.GlobalType.{GlobalType}
use Rattle.typed_trees.specs.Constants.{is_constant, TypedConstant}
use Rattle.typed_trees.specs.Contexts.{Context, is_reference_type}
use Rattle.typed_trees.specs.Forms.{language}
use Rattle.typed_trees.specs.Matching.{matches}
use Rattle.typed_trees.specs.Modules.{context, global_import, global_type, imported_of, all_globals, TypedElement}
use Rattle.typed_trees.specs.Operands.{int_type}
use Rattle.evaluation_kit.specs.Leaves.{top}
use Rattle.meaning_new.specs.declared.val.Val.{Val}
use Rattle.meaning_new.specs.Store.{missing}
use Rattle.meaning_new.specs.Instances.{constant_step}
use Rattle.pass_law.specs.ThenLawful.{and_left, and_right}
use Rattle.stage_kit.proofs.Lists.{IfAny, all_append, all_get}
use Rattle.pass_plain.specs.Constants.{ReadsNone}
use Rattle.pass_plain.proofs.ConstantTyping.{Pushes, Combines, shape, typed_rule, flat_typed, as_many, step_of, last_matches, pushed_type}
use Rattle.pass_plain.proofs.NothingNew.{none_of}

int_none : (w : Width) → is_reference_type (int_type w) ≡ false
int_none W32 = refl
int_none W64 = refl

-- a global that holds no reference
abbrev pub IsValue : GlobalType → Type 0
IsValue g = is_reference_type g.ty ≡ false

module _ (c : Context) (ls : List (List Ty)) (t : Ty) (reference : is_reference_type t ≡ true) where
  -- nothing stands behind an operand
  never_more : (i : Instr) (below operands takes gives : List (Operand Ty)) → Typed (language c) ls i takes gives → AllMatch matches operands takes → Pushes c ls (out-Instr i) ⊎ Combines c ls (out-Instr i) → 1 ≤ length (below ++ operands) → AllMatch matches (below ++ gives) (known (t ∷ [])) → ⊥
  never_more i below operands takes gives h match (inl p) some m =
      let f = flat_typed c ls i takes gives h [] (p.type ∷ []) p.is_form in
      let none : length operands ≡ 0 = as_many c operands takes match ∙ ap length f.0 in
      let given : length gives ≡ 1 = ap length f.1 in
      let all : length (below ++ gives) ≡ 1 = as_many c (below ++ gives) (known (t ∷ [])) m in
      let a = length-append below operands in
      let b = length-append below gives in
      omega (arith, none, given, all, a, b, some)
  never_more i below operands takes gives h match (inr q) some m =
      let f = flat_typed c ls i takes gives h (int_type q.width ∷ (int_type q.width ∷ [])) (int_type q.width ∷ []) q.is_form in
      let is : int_type q.width ≡ t = last_matches c below (int_type q.width) t (subst (λ l. AllMatch matches (below ++ l) (known (t ∷ []))) f.1 m) in
      let no : true ≡ false = sym reference ∙ ap is_reference_type (sym is) ∙ int_none q.width in
      absurd cc

  rest_alone : (code : List Instr) (stack after : List (Operand Ty)) → after ≡ known (t ∷ []) → list_all (is_constant c) code ≡ true → 1 ≤ length stack → TypedCode (language c) ls code stack after → (code ≡ []) × AllMatch matches stack after
  rest_alone _ _ _ e all some (typing.none _ stack after h) = (refl, h)
  rest_alone _ _ _ e all some (typing.more _ i code below operands takes gives after h match rest) =
      let s = shape c ls (out-Instr i) (and_left (is_constant c i) (list_all (is_constant c) code) all) (typed_rule c ls i takes gives h) in
      let given = (step_of c ls i operands takes gives h match s).given in
      let sum = length-append below gives in
      let more : 1 ≤ length (below ++ gives) = omega (arith, given, sum) in
      let ends = rest_alone code (below ++ gives) after e (and_right (is_constant c i) (list_all (is_constant c) code) all) more rest in
      absurd (never_more i below operands takes gives h match s some (subst (AllMatch matches (below ++ gives)) e ends.1))

  module _ (values : AllByRecursion IsValue c.globals) where
    one_alone : (i : Instr) → (p : Pushes c ls (out-Instr i)) → p.type ≡ t → ReadsNone (i ∷ [])
    one_alone i p e = by p.origin
      where
        by : ((globals others operands : List Val) → constant_step others (out-Instr i) operands ≡ constant_step globals (out-Instr i) operands) ⊎ ((x : ℕ) × (g : GlobalType) × (slice_get c.globals x ≡ Some g) × (p.type ≡ g.ty)) → ReadsNone (i ∷ [])
        by (inl same) globals others = ap (top missing) (same globals others [])
        by (inr r) globals others =
            let value : is_reference_type r.1.ty ≡ false = subst (IfAny IsValue) r.2 (all_get IsValue c.globals r.0 values) in
            let no : true ≡ false = sym reference ∙ ap is_reference_type (sym e ∙ r.3) ∙ value in
            absurd cc

    reads_none : (code : List Instr) (stack after : List (Operand Ty)) → after ≡ known (t ∷ []) → length stack ≡ 0 → list_all (is_constant c) code ≡ true → TypedCode (language c) ls code stack after → ReadsNone code
    reads_none _ _ _ e none all (typing.none _ stack after h) =
        let same : length stack ≡ length after = as_many c stack after h in
        let one : length after ≡ 1 = ap length e in
        let no : ⊥ = omega (arith, same, one, none) in
        absurd no
    reads_none _ _ _ e none all (typing.more _ i code below operands takes gives after h match rest) =
        let s = shape c ls (out-Instr i) (and_left (is_constant c i) (list_all (is_constant c) code) all) (typed_rule c ls i takes gives h) in
        let given = (step_of c ls i operands takes gives h match s).given in
        let sum = length-append below gives in
        let more : 1 ≤ length (below ++ gives) = omega (arith, given, sum) in
        let ends = rest_alone code (below ++ gives) after e (and_right (is_constant c i) (list_all (is_constant c) code) all) more rest in
        let p = pushed_type c ls i code below operands takes gives t ends.0 none h match (subst (λ l. TypedCode (language c) ls code (below ++ gives) l) e rest) s in
        subst (λ l. ReadsNone (i ∷ l)) (sym ends.0) (one_alone i p.0 p.1)

module _ (m : Module) (values : AllByRecursion IsValue (all_globals m)) where
  items_read_none : (t : Ty) → is_reference_type t ≡ true → (items : List (List Instr)) → AllByRecursion (λ code. TypedConstant (context m) code t) items → AllByRecursion ReadsNone items
  items_read_none t r [] h = tt
  items_read_none t r (code ∷ items) h = (reads_none (context m) [] t r values code [] (known (t ∷ [])) refl refl h.0.constant h.0.typed, items_read_none t r items h.1)

  -- The lemma: entries of element segments.
  pub elems_read_none : (es : List Element) → AllByRecursion (TypedElement m) es → AllByRecursion (λ e. AllByRecursion ReadsNone e.items) es
  elems_read_none [] h = tt
  elems_read_none (e ∷ es) h = (items_read_none e.ty h.0.type e.items h.0.items, elems_read_none es h.1)

-- types that are no references
pub no_reference : (t : Ty) → type_shows features.Refs t ≡ false → type_shows features.Exceptions t ≡ false → is_reference_type t ≡ false
unfolding type_shows
no_reference types.Func e f = let no : ⊥ = cc in absurd no
no_reference types.Extern e f = let no : ⊥ = cc in absurd no
no_reference types.Exn e f = let no : ⊥ = cc in absurd no
no_reference types.I32 e f = refl
no_reference types.I64 e f = refl
no_reference types.F32 e f = refl
no_reference types.F64 e f = refl
no_reference types.V128 e f = refl

imports_hold_none : (is : List Import) → list_any (λ i. global_import_shows features.Refs i.desc) is ≡ false → list_any (λ i. global_import_shows features.Exceptions i.desc) is ≡ false → AllByRecursion IsValue (filter_map (λ i. global_import i.desc) is)
imports_hold_none [] e f = tt
imports_hold_none (i ∷ is) e f =
    let both = none_of (global_import_shows features.Refs i.desc) (list_any (λ j. global_import_shows features.Refs j.desc) is) e in
    let both' = none_of (global_import_shows features.Exceptions i.desc) (list_any (λ j. global_import_shows features.Exceptions j.desc) is) f in
    one i.desc (filter_map (λ j. global_import j.desc) is) both.0 both'.0 (imports_hold_none is both.1 both'.1)
  where
    one : (d : ImportDesc) (gs : List GlobalType) → global_import_shows features.Refs d ≡ false → global_import_shows features.Exceptions d ≡ false → AllByRecursion IsValue gs → AllByRecursion IsValue (cons_option (global_import d) gs)
    one (imports.Global t mutable) gs a b h = (no_reference t a b, h)
    one (imports.Func t) gs a b h = h
    one (imports.Table t l) gs a b h = h
    one (imports.Memory l) gs a b h = h
    one (imports.Tag t) gs a b h = h

globals_hold_none : (gs : List Global) → list_any (λ g. type_shows features.Refs g.ty) gs ≡ false → list_any (λ g. type_shows features.Exceptions g.ty) gs ≡ false → AllByRecursion IsValue (map global_type gs)
globals_hold_none [] e f = tt
globals_hold_none (g ∷ gs) e f =
    let both = none_of (type_shows features.Refs g.ty) (list_any (λ i. type_shows features.Refs i.ty) gs) e in
    let both' = none_of (type_shows features.Exceptions g.ty) (list_any (λ i. type_shows features.Exceptions i.ty) gs) f in
    (no_reference g.ty both.0 both'.0, globals_hold_none gs both.1 both'.1)

pub no_references : (m : Module) → list_any (λ i. global_import_shows features.Refs i.desc) m.imports ≡ false → list_any (λ i. global_import_shows features.Exceptions i.desc) m.imports ≡ false → list_any (λ g. type_shows features.Refs g.ty) m.globals ≡ false → list_any (λ g. type_shows features.Exceptions g.ty) m.globals ≡ false → AllByRecursion IsValue (all_globals m)
no_references m e f e' f' = all_append IsValue (imported_of global_import m) (map global_type m.globals) (imports_hold_none m.imports e f) (globals_hold_none m.globals e' f')
