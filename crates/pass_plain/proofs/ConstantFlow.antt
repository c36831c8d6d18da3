-- A typed constant expression takes and gives known types, one instruction after another.
use Rattle.std.proofs.Common.{◌≡◌, Bool, true, false, ◌&&◌, List, [], ◌∷◌, ◌++◌, Option, Some, None, refl, sym, ap, ◌∙◌, subst}
use Rattle.std.specs.Prelude.{slice_get}
use Rattle.std.specs.List.{list_all}
use Rattle.wasm_ast.specs.Marking.{is_marked}
use Rattle.wasm_ast.specs.declared.module.ty.Ty.{Ty}
use Rattle.wasm_ast.specs.declared.module.ty.Ty.TheVariants as types
use Rattle.wasm_ast.specs.declared.module.op.Op.{Op}
use Rattle.wasm_ast.specs.declared.module.op.Op.TheVariants as ops
use Rattle.wasm_ast.specs.declared.module.code.Instr.{Instr, out-Instr}
use Rattle.wasm_ast.specs.declared.module.code.Instr.TheOpen.{Instr-F}
use Rattle.typing_kit.specs.declared.operand.Operand.{Operand}
use Rattle.typing_kit.specs.declared.operand.Operand.TheVariants.{Known, Bottom}
use Rattle.typing_kit.specs.Form.{Untyped, Flat}
use Rattle.typing_kit.specs.Matching.{known, AllMatch}
use Rattle.typing_kit.specs.Typing.{Typed, TypedCode, flat, any, select, leaves, table, block, choice, none, more}
use Rattle.typed_trees.specs.Contexts.{Context, is_reference_type}
use Rattle.typed_trees.specs.Constants.{is_constant_op, is_constant_layer, is_constant, TypedConstant}
use Rattle.typed_trees.specs.Forms.{InstrForm, op_form, layer_form, form, language, where_some, where_true}
use Rattle.typed_trees.specs.Matching.{matches}
use Rattle.typed_trees.proofs.Lawfulness.{matches_equal}
use Rattle.typed_trees.proofs.LeafTyped.{known_append}
use Rattle.pass_law.specs.ThenLawful.{and_left, and_right}

-- operands that are known, and lists of them
known_inside : (s : List Ty) (a b : List (Operand Ty)) → a ++ b ≡ known s → (x : List Ty) × (y : List Ty) × (a ≡ known x) × (b ≡ known y) × (s ≡ x ++ y)
known_inside s [] b e = ([], s, refl, e, refl)
known_inside [] (o ∷ a) b e = let no : ⊥ = cc in absurd no
known_inside (t ∷ s) (o ∷ a) b e =
    let head : o ≡ Known t = cc in
    let tail : a ++ b ≡ known s = cc in
    let rest = known_inside s a b tail in
    (t ∷ rest.0, rest.1, (λ i. head i ∷ rest.2 i), rest.3, ap (λ l. t ∷ l) rest.4)

same_known : (s : List Ty) (b : List (Operand Ty)) → AllMatch matches (known s) b → b ≡ known s
same_known [] [] h = refl
same_known [] (o ∷ b) h = absurd h
same_known (t ∷ s) [] h = absurd h
same_known (t ∷ s) (Bottom ∷ b) h = absurd h.0
same_known (t ∷ s) (Known u ∷ b) h =
    let head = sym (matches_equal t u h.0) in
    let tail = same_known s b h.1 in
    λ i. Known (head i) ∷ tail i

known_same : (a b : List Ty) → known a ≡ known b → a ≡ b
known_same [] [] e = refl
known_same [] (t ∷ b) e = let no : ⊥ = cc in absurd no
known_same (s ∷ a) [] e = let no : ⊥ = cc in absurd no
known_same (s ∷ a) (t ∷ b) e =
    let head : s ≡ t = cc in
    let tail : known a ≡ known b = cc in
    let rest = known_same a b tail in
    λ i. head i ∷ rest i

-- a form without code
abbrev pub flat_form : List Ty → List Ty → InstrForm
flat_form takes gives = Flat takes gives

module _ (c : Context) where
  -- over the first types the code leaves the second ones; each instruction may stand in a constant expression
  abbrev pub Flows : List Instr → List Ty → List Ty → Type 0
  Flows [] s t = s ≡ t
  Flows (i ∷ code) s t = (below : List Ty) × (takes : List Ty) × (gives : List Ty) × (s ≡ below ++ takes) × (form c [] i ≡ Flat takes gives) × (is_constant c i ≡ true) × Flows code (below ++ gives) t

  -- a constant instruction is flat
  abbrev IsFlat : InstrForm → Type 0
  IsFlat Untyped = Unit {0}
  IsFlat (Flat a b) = Unit {0}
  IsFlat _ = ⊥

  flat_some : {X : Type 0} (o : Option X) (f : X → InstrForm) → ((x : X) → IsFlat (f x)) → IsFlat (where_some o f)
  flat_some None f h = tt
  flat_some (Some x) f h = h x

  flat_true : (b : Bool) (f : InstrForm) → IsFlat f → IsFlat (where_true b f)
  flat_true true f h = h
  flat_true false f h = tt

  op_flat : (op : Op) → is_constant_op op ≡ true → IsFlat (op_form c op)
  op_flat (ops.I32Const i) h = tt
  op_flat (ops.I64Const i) h = tt
  op_flat (ops.V128Const v) h = tt
  op_flat (ops.RefNull t) h = flat_true (is_reference_type t) (Flat [] (t ∷ [])) tt
  op_flat (ops.RefFunc x) h = flat_some (slice_get c.funcs x) (λ t. where_true (is_marked c.refs x) (Flat [] (types.Func ∷ []))) (λ t. flat_true (is_marked c.refs x) (Flat [] (types.Func ∷ [])) tt)
  op_flat (ops.Binary w op) h = tt
  op_flat _ h = let no : ⊥ = cc in absurd no

  layer_flat : (l : Instr-F Instr) → is_constant_layer c l ≡ true → IsFlat (layer_form c [] l)
  layer_flat (Instr-F.GlobalGet x) h = flat_some (slice_get c.globals x) (λ g. Flat [] (g.ty ∷ [])) (λ g. tt)
  layer_flat (Instr-F.Pure op) h = op_flat op h
  layer_flat l h = let no : ⊥ = cc in absurd no

  record AsFlat (i : Instr) (takes gives : List (Operand Ty)) : Type 0 where
    a : List Ty
    b : List Ty
    form_is : form c [] i ≡ Flat a b
    takes_is : takes ≡ known a
    gives_is : gives ≡ known b

  as_flat : (i : Instr) (takes gives : List (Operand Ty)) → Typed (language c) [] i takes gives → IsFlat (form c [] i) → AsFlat i takes gives
  as_flat i _ _ (flat _ _ a b e) h = record { a = a; b = b; form_is = e; takes_is = refl; gives_is = refl }
  as_flat i _ _ (any _ _ kind gives t e of) h = absurd (subst IsFlat e h)
  as_flat i _ _ (select _ _ t e of) h = absurd (subst IsFlat e h)
  as_flat i _ _ (leaves _ _ takes below after e) h = absurd (subst IsFlat e h)
  as_flat i _ _ (table _ _ last others takes below after e fits all) h = absurd (subst IsFlat e h)
  as_flat i _ _ (block _ _ label takes gives code e body) h = absurd (subst IsFlat e h)
  as_flat i _ _ (choice _ _ label takes gives first second e body other) h = absurd (subst IsFlat e h)

  record Reaches (code : List Instr) (s : List Ty) (after : List (Operand Ty)) : Type 0 where
    end : List Ty
    is : after ≡ known end
    flows : Flows code s end

  reaches : (code : List Instr) (before after : List (Operand Ty)) (s : List Ty) → list_all (is_constant c) code ≡ true → TypedCode (language c) [] code before after → before ≡ known s → Reaches code s after
  reaches _ _ _ s h (none _ stack after fits) e = record { end = s; is = same_known s after (subst (λ l. AllMatch matches l after) e fits); flows = refl }
  reaches _ _ _ s h (more _ i code below operands takes gives after one fits rest) e =
      let here : is_constant c i ≡ true = and_left (is_constant c i) (list_all (is_constant c) code) h in
      let parts = known_inside s below operands e in
      let f = as_flat i takes gives one (layer_flat (out-Instr i) here) in
      let same : parts.1 ≡ f.a = known_same parts.1 f.a (sym (same_known parts.1 takes (subst (λ l. AllMatch matches l takes) parts.3 fits)) ∙ f.takes_is) in
      let behind = reaches code (below ++ gives) after (parts.0 ++ f.b) (and_right (is_constant c i) (list_all (is_constant c) code) h) rest
      (ap (λ l. l ++ gives) parts.2 ∙ ap (λ l. known parts.0 ++ l) f.gives_is ∙ sym (known_append parts.0 f.b)) in
      record { end = behind.end; is = behind.is; flows = (parts.0, f.a, f.b, parts.4 ∙ ap (λ l. parts.0 ++ l) same, f.form_is, here, behind.flows) }

  -- The lemma.
  pub constant_flows : (code : List Instr) (t : Ty) → TypedConstant c code t → Flows code [] (t ∷ [])
  constant_flows code t h =
      let r = reaches code [] (known (t ∷ [])) [] h.constant h.typed refl in
      subst (Flows code []) (known_same r.end (t ∷ []) (sym r.is)) r.flows
