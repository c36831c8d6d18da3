-- Constant expressions have the values of their types.
use Rattle.std.proofs.Common.{◌≡◌, ℕ, Bool, true, false, ◌&&◌, List, [], ◌∷◌, ◌++◌, reverse, Option, Some, None, refl, sym, ap, ◌∙◌, subst}
use Rattle.std.specs.Prelude.{slice_get, slice_index_or}
use Rattle.std.specs.List.{list_all}
use Rattle.std.proofs.lemmas.List.{reverse-append}
use Rattle.num_core.specs.declared.operators.Bin.TheVariants as bins
use Rattle.wasm_ast.specs.Spaces.{func_indices}
use Rattle.wasm_ast.specs.declared.module.ty.Ty.{Ty}
use Rattle.wasm_ast.specs.declared.module.op.Op.{Op}
use Rattle.wasm_ast.specs.declared.module.op.Op.TheVariants as ops
use Rattle.wasm_ast.specs.declared.module.code.Instr.{Instr, out-Instr}
use Rattle.wasm_ast.specs.declared.module.code.Instr.TheOpen.{Instr-F}
use Rattle.wasm_ast.specs.declared.module.parts.Module.{Module}
use Rattle.typing_kit.specs.declared.operand.Operand.{Operand}
use Rattle.typing_kit.specs.declared.operand.Operand.TheVariants.{Known, Bottom}
use Rattle.typing_kit.specs.Form.{Untyped, Flat}
use Rattle.typing_kit.specs.Matching.{known, AllMatch}
use Rattle.typing_kit.specs.Typing.{Typed, TypedCode, flat, any, select, leaves, table, block, choice, none, more}
use Rattle.wasm_ast.specs.declared.module.ty.Ty.TheVariants as types
use Rattle.wasm_ast.specs.Marking.{is_marked}
use Rattle.typed_trees.specs.Contexts.{Context, is_reference_type}
use Rattle.typed_trees.specs.Constants.{is_constant_op, is_constant_layer, is_constant, TypedConstant}
use Rattle.typed_trees.specs.Forms.{InstrForm, op_form, layer_form, form, language, where_some, where_true}
use Rattle.typed_trees.specs.Matching.{matches}
use Rattle.typed_trees.specs.declared.global_type.GlobalType.{GlobalType}
use Rattle.typed_trees.proofs.Lawfulness.{matches_equal}
use Rattle.typed_trees.proofs.LeafTyped.{known_append}
use Rattle.meaning_new.specs.declared.val.Val.{Val}
use Rattle.meaning_new.specs.Store.{missing}
use Rattle.meaning_new.specs.Numeric.{pure}
use Rattle.meaning_new.specs.Instances.{or_same, constant_step, constant_steps, constant}
use Rattle.soundness.specs.States.{Has, HaveTypes}
use Rattle.soundness.proofs.Lists.{IfAny, pair_top}
use Rattle.soundness.proofs.Operators.{Pures, op_typed}

-- operands that are known, and lists of them
known_inside : (s : List Ty) (a b : List (Operand Ty)) → a ++ b ≡ known s → (x : List Ty) × (y : List Ty) × (a ≡ known x) × (b ≡ known y) × (s ≡ x ++ y)
known_inside s [] b e = ([], s, refl, e, refl)
known_inside [] (o ∷ a) b e = let no : ⊥ = cc in absurd no
known_inside (t ∷ s) (o ∷ a) b e =
    let head : o ≡ Known t = cc in
    let tail : a ++ b ≡ known s = cc in
    let rest = known_inside s a b tail in
    (t ∷ rest.0, rest.1, (λ i. head i ∷ rest.2 i), rest.3, ap (λ l. t ∷ l) rest.4)

same_known : (s : List Ty) (b : List (Operand Ty)) → AllMatch matches (known s) b → b ≡ known s
same_known [] [] h = refl
same_known [] (o ∷ b) h = absurd h
same_known (t ∷ s) [] h = absurd h
same_known (t ∷ s) (Bottom ∷ b) h = absurd h.0
same_known (t ∷ s) (Known u ∷ b) h =
    let head = sym (matches_equal t u h.0) in
    let tail = same_known s b h.1 in
    λ i. Known (head i) ∷ tail i

known_same : (a b : List Ty) → known a ≡ known b → a ≡ b
known_same [] [] e = refl
known_same [] (t ∷ b) e = let no : ⊥ = cc in absurd no
known_same (s ∷ a) [] e = let no : ⊥ = cc in absurd no
known_same (s ∷ a) (t ∷ b) e =
    let head : s ≡ t = cc in
    let tail : known a ≡ known b = cc in
    let rest = known_same a b tail in
    λ i. head i ∷ rest i

-- a constant operator does not trap
pure_defined : (op : Op) → is_constant_op op ≡ true → (vs : List Val) → (l : List Val) × (pure op vs ≡ Some l)
pure_defined (ops.I32Const i) h vs = (_, refl)
pure_defined (ops.I64Const i) h vs = (_, refl)
pure_defined (ops.V128Const v) h vs = (_, refl)
pure_defined (ops.RefNull t) h vs = (_, refl)
pure_defined (ops.RefFunc x) h vs = (_, refl)
pure_defined (ops.Binary w bins.Add) h vs = (_, refl)
pure_defined (ops.Binary w bins.Sub) h vs = (_, refl)
pure_defined (ops.Binary w bins.Mul) h vs = (_, refl)
pure_defined _ h vs = let no : ⊥ = cc in absurd no

module _ (m : Module) (k : ℕ) (c : Context) (funcs : c.funcs ≡ func_indices m) (globals : List Val) (typed : (x : ℕ) (g : GlobalType) → slice_get c.globals x ≡ Some g → Has m k (slice_index_or globals x missing) g.ty) where
  -- one instruction
  op_step : (op : Op) (a b rest : List Ty) (vs : List Val) → is_constant_op op ≡ true → op_form c op ≡ Flat a b → HaveTypes m k vs (reverse a ++ rest) → HaveTypes m k (or_same vs (pure op vs)) (reverse b ++ rest)
  op_step op a b rest vs h e g =
      let there = pure_defined op h vs in
      let after = subst (λ f. Pures m c f (pure op)) e (op_typed m c op funcs).by rest k vs g in
      subst (λ o. HaveTypes m k (or_same vs o) (reverse b ++ rest)) (sym there.1) (subst (IfAny (λ l. HaveTypes m k l (reverse b ++ rest))) there.1 after)

  global_step : (x : ℕ) (o : Option GlobalType) (a b rest : List Ty) (vs : List Val) → slice_get c.globals x ≡ o → where_some o (λ g. Flat [] (g.ty ∷ [])) ≡ Flat a b → HaveTypes m k vs (reverse a ++ rest) → HaveTypes m k (slice_index_or globals x missing ∷ vs) (reverse b ++ rest)
  global_step x None a b rest vs e i g = let no : ⊥ = cc in absurd no
  global_step x (Some y) a b rest vs e i g =
      let nothing : [] ≡ a = cc in
      let one : (y.ty ∷ []) ≡ b = cc in
      subst (λ l. HaveTypes m k (slice_index_or globals x missing ∷ vs) (reverse l ++ rest)) one (typed x y e, subst (λ l. HaveTypes m k vs (reverse l ++ rest)) (sym nothing) g)

  step_typed : (l : Instr-F Instr) (ls : List (List Ty)) (a b rest : List Ty) (vs : List Val) → is_constant_layer c l ≡ true → layer_form c ls l ≡ Flat a b → HaveTypes m k vs (reverse a ++ rest) → HaveTypes m k (constant_step globals l vs) (reverse b ++ rest)
  step_typed (Instr-F.GlobalGet x) ls a b rest vs h e g = global_step x (slice_get c.globals x) a b rest vs refl e g
  step_typed (Instr-F.Pure op) ls a b rest vs h e g = op_step op a b rest vs h e g
  step_typed l ls a b rest vs h e g = let no : ⊥ = cc in absurd no

  -- a constant instruction is flat
  abbrev IsFlat : InstrForm → Type 0
  IsFlat Untyped = Unit {0}
  IsFlat (Flat a b) = Unit {0}
  IsFlat _ = ⊥

  flat_some : {X : Type 0} (o : Option X) (f : X → InstrForm) → ((x : X) → IsFlat (f x)) → IsFlat (where_some o f)
  flat_some None f h = tt
  flat_some (Some x) f h = h x

  flat_true : (b : Bool) (f : InstrForm) → IsFlat f → IsFlat (where_true b f)
  flat_true true f h = h
  flat_true false f h = tt

  op_flat : (op : Op) → is_constant_op op ≡ true → IsFlat (op_form c op)
  op_flat (ops.I32Const i) h = tt
  op_flat (ops.I64Const i) h = tt
  op_flat (ops.V128Const v) h = tt
  op_flat (ops.RefNull t) h = flat_true (is_reference_type t) (Flat [] (t ∷ [])) tt
  op_flat (ops.RefFunc x) h = flat_some (slice_get c.funcs x) (λ t. where_true (is_marked c.refs x) (Flat [] (types.Func ∷ []))) (λ t. flat_true (is_marked c.refs x) (Flat [] (types.Func ∷ [])) tt)
  op_flat (ops.Binary w op) h = tt
  op_flat _ h = let no : ⊥ = cc in absurd no

  layer_flat : (l : Instr-F Instr) (ls : List (List Ty)) → is_constant_layer c l ≡ true → IsFlat (layer_form c ls l)
  layer_flat (Instr-F.GlobalGet x) ls h = flat_some (slice_get c.globals x) (λ g. Flat [] (g.ty ∷ [])) (λ g. tt)
  layer_flat (Instr-F.Pure op) ls h = op_flat op h
  layer_flat l ls h = let no : ⊥ = cc in absurd no

  pub record AsFlat (ls : List (List Ty)) (i : Instr) (takes gives : List (Operand Ty)) : Type 0 where
    a : List Ty
    b : List Ty
    form_is : form c ls i ≡ Flat a b
    takes_is : takes ≡ known a
    gives_is : gives ≡ known b

  typed_flat : (ls : List (List Ty)) (i : Instr) (takes gives : List (Operand Ty)) → Typed (language c) ls i takes gives → IsFlat (form c ls i) → AsFlat ls i takes gives
  typed_flat ls i _ _ (flat _ _ a b e) h = record { a = a; b = b; form_is = e; takes_is = refl; gives_is = refl }
  typed_flat ls i _ _ (any _ _ kind gives t e of) h = absurd (subst IsFlat e h)
  typed_flat ls i _ _ (select _ _ t e of) h = absurd (subst IsFlat e h)
  typed_flat ls i _ _ (leaves _ _ takes below after e) h = absurd (subst IsFlat e h)
  typed_flat ls i _ _ (table _ _ last others takes below after e fits all) h = absurd (subst IsFlat e h)
  typed_flat ls i _ _ (block _ _ label takes gives code e body) h = absurd (subst IsFlat e h)
  typed_flat ls i _ _ (choice _ _ label takes gives first second e body other) h = absurd (subst IsFlat e h)

  both_true : (a b : Bool) → (a && b) ≡ true → (a ≡ true) × (b ≡ true)
  both_true true b h = (refl, h)
  both_true false b h = let no : ⊥ = cc in absurd no

  record Ends (after : List (Operand Ty)) (vs : List Val) : Type 0 where
    types_left : List Ty
    left : after ≡ known types_left
    values : HaveTypes m k vs (reverse types_left)

  steps_typed : (code : List Instr) (before after : List (Operand Ty)) (s : List Ty) (vs : List Val) → list_all (is_constant c) code ≡ true → TypedCode (language c) [] code before after → before ≡ known s → HaveTypes m k vs (reverse s) → Ends after (constant_steps globals code vs)
  steps_typed _ _ _ s vs h (none _ stack after fits) e g =
      record { types_left = s; left = same_known s after (subst (λ l. AllMatch matches l after) e fits); values = g }
  steps_typed _ _ _ s vs h (more _ i code below operands takes gives after one fits rest) e g =
      let all = both_true (is_constant c i) (list_all (is_constant c) code) h in
      let parts = known_inside s below operands e in
      let low = parts.0 in
      let own = parts.1 in
      let f = typed_flat [] i takes gives one (layer_flat (out-Instr i) [] all.0) in
      let same : own ≡ f.a = known_same own f.a (sym (same_known own takes (subst (λ l. AllMatch matches l takes) parts.3 fits)) ∙ f.takes_is) in
      let stack : HaveTypes m k vs (reverse f.a ++ reverse low) = subst (λ l. HaveTypes m k vs (reverse l ++ reverse low)) same (subst (λ l. HaveTypes m k vs l) (ap reverse parts.4 ∙ reverse-append low own) g) in
      let after_one = step_typed (out-Instr i) [] f.a f.b (reverse low) vs all.0 f.form_is stack in
      steps_typed code (below ++ gives) after (low ++ f.b) (constant_step globals (out-Instr i) vs) all.1 rest
      (ap (λ l. l ++ gives) parts.2 ∙ ap (λ l. known low ++ l) f.gives_is ∙ sym (known_append low f.b))
      (subst (λ l. HaveTypes m k (constant_step globals (out-Instr i) vs) l) (sym (reverse-append low f.b)) after_one)

  -- its value
  pub constant_typed : (code : List Instr) (t : Ty) → TypedConstant c code t → Has m k (constant globals code) t
  constant_typed code t h =
      let end = steps_typed code [] (known (t ∷ [])) [] [] h.constant h.typed refl tt in
      let same : end.types_left ≡ t ∷ [] = known_same end.types_left (t ∷ []) (sym end.left) in
      pair_top (Has m k) missing (constant_steps globals code []) t [] (subst (λ l. HaveTypes m k (constant_steps globals code []) (reverse l)) same end.values)
