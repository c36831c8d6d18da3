-- A constant expression of one instruction that leaves an integer crosses, and is constant and typed in 1.0.
use Rattle.std.proofs.Common.{◌≡◌, ◌<◌, ℕ, Bool, true, false, not, nat_lt, List, [], ◌∷◌, ◌++◌, Option, Some, None, refl, sym, ap, ◌∙◌, subst}
use Rattle.std.specs.Prelude.{slice_get}
use Rattle.std.proofs.lemmas.Bool.{ltb-true}
use Rattle.wasm_ast.specs.declared.module.ty.Ty.{Ty}
use Rattle.wasm_ast.specs.declared.module.ty.Ty.TheVariants as types
use Rattle.wasm_ast.specs.declared.module.op.Op.{Op}
use Rattle.wasm_ast.specs.declared.module.op.Op.TheVariants as ops
use Rattle.wasm_ast.specs.declared.module.code.Instr.{Instr, out-Instr, roll-out-Instr}
use Rattle.wasm_ast.specs.declared.module.code.Instr.TheOpen.{Instr-F}
use Rattle.wasm_ast.specs.Occurrence.{head}
use Rattle.wasm_ast.specs.Has.{is_constant_op, is_simple, is_one_simple}
use Rattle.wasm_ast.specs.Marking.{is_marked}
use Rattle.core1_ast.specs.declared.module.op.Op1.TheVariants as ops1
use Rattle.core1_ast.specs.declared.module.code.Instr1.{roll-Instr1}
use Rattle.core1_ast.specs.Code as old
use Rattle.core1_ast.specs.Typing as typing1
use Rattle.typing_kit.specs.declared.operand.Operand.{Operand}
use Rattle.typing_kit.specs.Form.{Untyped, Flat}
use Rattle.typing_kit.specs.Matching.{known, AllMatch}
use Rattle.typing_kit.specs.Typing as typing
use Rattle.typing_kit.specs.Typing.{Typed, TypedCode}
use Rattle.typed_trees.specs.declared.global_type.GlobalType.{GlobalType}
use Rattle.typed_trees.specs.Contexts.{Context, is_reference_type}
use Rattle.typed_trees.specs.Constants.{is_fixed, is_constant_layer, is_constant, TypedConstant}
use Rattle.typed_trees.specs.Forms.{InstrForm, where_some, where_true, op_form, layer_form, form, language}
use Rattle.typed_trees.specs.Matching.{matches}
use Rattle.typed_trees.proofs.Lawfulness.{matches_equal}
use Rattle.crossing.specs.Code.{is_integer, cross_type, cross_code, cross_instr}
use Rattle.crossing.specs.Crossing as crossing
use Rattle.crossing.specs.Crossing.{ConstantCrosses}
use Rattle.pass_cross.specs.Contexts.{cross_global_type}
use Rattle.pass_cross.proofs.Instructions.{crossed}
use Rattle.pass_cross.proofs.Nodes.{instr_out, and_left}

-- what one instruction that takes nothing leaves
abbrev pub LeavesOne : InstrForm → Ty → Type 0
LeavesOne Untyped t = ⊥
LeavesOne (Flat a (u ∷ [])) t = u ≡ t
LeavesOne _ t = Unit {0}

module _ (c : Context) where
  left_by : (gives : List Ty) (a : List Ty) (s after : List (Operand Ty)) (t : Ty) (code : List Instr) → TypedCode (language c) [] code s after → code ≡ [] → s ≡ known gives → after ≡ known (t ∷ []) → LeavesOne (Flat a gives) t
  left_by [] a s after t code h e q r = tt
  left_by (u ∷ (v ∷ gives)) a s after t code h e q r = tt
  left_by (u ∷ []) a s after t _ (typing.none _ _ _ match) e q r =
      matches_equal u t (subst (λ x. AllMatch matches (known (u ∷ [])) x) r (subst (λ x. AllMatch matches x after) q match)).0
  left_by (u ∷ []) a s after t _ (typing.more _ i code below operands takes gives _ one match rest) e q r = absurd cc

  one_by : (i j : Instr) (takes gives s after : List (Operand Ty)) (t : Ty) (code : List Instr) → Typed (language c) [] j takes gives → j ≡ i → code ≡ [] → s ≡ gives → after ≡ known (t ∷ []) → TypedCode (language c) [] code s after → LeavesOne (form c [] i) t
  one_by i j _ _ s after t code (typing.flat _ _ a b f) e k q r h = subst (λ x. LeavesOne x t) (sym f ∙ ap (form c []) e) (left_by b a s after t code h k q r)
  one_by i j _ _ s after t code (typing.any _ _ kind b x f w) e k q r h = subst (λ x. LeavesOne x t) (sym f ∙ ap (form c []) e) tt
  one_by i j _ _ s after t code (typing.select _ _ x f w) e k q r h = subst (λ x. LeavesOne x t) (sym f ∙ ap (form c []) e) tt
  one_by i j _ _ s after t code (typing.leaves _ _ a below x f) e k q r h = subst (λ x. LeavesOne x t) (sym f ∙ ap (form c []) e) tt
  one_by i j _ _ s after t code (typing.table _ _ l others a below x f w v) e k q r h = subst (λ x. LeavesOne x t) (sym f ∙ ap (form c []) e) tt
  one_by i j _ _ s after t code (typing.block _ _ label a b inner f w) e k q r h = subst (λ x. LeavesOne x t) (sym f ∙ ap (form c []) e) tt
  one_by i j _ _ s after t code (typing.choice _ _ label a b first second f w v) e k q r h = subst (λ x. LeavesOne x t) (sym f ∙ ap (form c []) e) tt

  empty_below : {A : Type 0} (below operands gives : List A) → below ++ operands ≡ [] → below ++ gives ≡ gives
  empty_below [] operands gives e = refl
  empty_below (x ∷ below) operands gives e = absurd cc

  code_by : (i : Instr) (code : List Instr) (s after : List (Operand Ty)) (t : Ty) → TypedCode (language c) [] code s after → code ≡ i ∷ [] → s ≡ [] → after ≡ known (t ∷ []) → LeavesOne (form c [] i) t
  code_by i _ _ _ t (typing.none _ _ _ match) e q r = absurd cc
  code_by i _ _ _ t (typing.more _ j code below operands takes gives after one match rest) e q r =
      let same : j ≡ i = cc in
      let end : code ≡ [] = cc in
      one_by i j takes gives (below ++ gives) after t code one same end (empty_below below operands gives q) r rest

  pub leaves_one : (i : Instr) (t : Ty) → TypedCode (language c) [] (i ∷ []) [] (known (t ∷ [])) → LeavesOne (form c [] i) t
  leaves_one i t h = code_by i (i ∷ []) [] (known (t ∷ [])) t h refl refl refl

-- a constant expression in both
pub record ConstantOut (k : ℕ) (code : List Instr) (t : Ty) (c1 : old.Context) : Type 0 where
  pub crosses : ConstantCrosses k code
  pub typed : typing1.TypedConstant c1 (cross_code code) (cross_type t)

module _ (c : Context) (k : ℕ) (c1 : old.Context) (look : (x : ℕ) (g : GlobalType) → x < k → slice_get c.globals x ≡ Some g → slice_get c1.globals x ≡ Some (cross_global_type g)) (t : Ty) (integer : is_integer t ≡ true) where
  -- one instruction of 1.0
  abbrev OneOut : Instr-F Instr → Type 0
  OneOut l = (crossing.is_constant k l ≡ true) × typing1.IsConstant c1 (crossed l) × old.Typed c1 (crossed l) [] (cross_type t ∷ [])

  op_out : (op : Op) → is_constant_op op ≡ true → LeavesOne (op_form c op) t → OneOut (Instr-F.Pure op)
  unfolding roll-Instr1 denote.Hole.Carrier.roll
  op_out (ops.I32Const n) h o =
      (refl, typing1.i32_const c1 (crossed (Instr-F.Pure (ops.I32Const n))) n refl, subst (λ u. old.Typed c1 (crossed (Instr-F.Pure (ops.I32Const n))) [] (cross_type u ∷ [])) o (old.pure c1 (crossed (Instr-F.Pure (ops.I32Const n))) (ops1.I32Const n) refl))
  op_out (ops.I64Const n) h o =
      (refl, typing1.i64_const c1 (crossed (Instr-F.Pure (ops.I64Const n))) n refl, subst (λ u. old.Typed c1 (crossed (Instr-F.Pure (ops.I64Const n))) [] (cross_type u ∷ [])) o (old.pure c1 (crossed (Instr-F.Pure (ops.I64Const n))) (ops1.I64Const n) refl))
  op_out (ops.V128Const v) h o = let no : is_integer types.V128 ≡ true = subst (λ u. is_integer u ≡ true) (sym o) integer in absurd cc
  op_out (ops.RefNull u) h o = absurd (at (is_reference_type u) refl o)
    where
      no_reference : (u : Ty) → is_reference_type u ≡ true → is_integer u ≡ true → ⊥
      no_reference types.I32 r q = cc
      no_reference types.I64 r q = cc
      no_reference u r q = cc

      at : (b : Bool) → is_reference_type u ≡ b → LeavesOne (where_true b (Flat [] (u ∷ []))) t → ⊥
      at false e o = o
      at true e o = no_reference u e (subst (λ u. is_integer u ≡ true) (sym o) integer)
  op_out (ops.RefFunc x) h o = absurd (at (slice_get c.funcs x) o)
    where
      by_mark : (b : Bool) → LeavesOne (where_true b (Flat [] (types.Func ∷ []))) t → ⊥
      by_mark false o = o
      by_mark true o = let no : is_integer types.Func ≡ true = subst (λ u. is_integer u ≡ true) (sym o) integer in cc

      at : (y : Option ℕ) → LeavesOne (where_some y (λ t. where_true (is_marked c.refs x) (Flat [] (types.Func ∷ [])))) t → ⊥
      at None o = o
      at (Some y) o = by_mark (is_marked c.refs x) o
  op_out op h o = absurd cc

  global_out : (x : ℕ) → nat_lt x k ≡ true → (o : Option GlobalType) → slice_get c.globals x ≡ o → is_fixed o ≡ true → LeavesOne (where_some o (λ g. Flat [] (g.ty ∷ []))) t → OneOut (Instr-F.GlobalGet x)
  unfolding roll-Instr1 denote.Hole.Carrier.roll
  global_out x lt None e f o = absurd o
  global_out x lt (Some g) e f o =
      let there = look x g (ltb-true x k lt) e in (
        lt,
        typing1.fixed_global c1 (crossed (Instr-F.GlobalGet x)) x (cross_global_type g) refl there (fixed g.mutable f),
        subst (λ u. old.Typed c1 (crossed (Instr-F.GlobalGet x)) [] (cross_type u ∷ [])) o (old.global_get c1 (crossed (Instr-F.GlobalGet x)) x (cross_global_type g) refl there),
      )
    where
      fixed : (b : Bool) → not b ≡ true → b ≡ false
      fixed false h = refl
      fixed true h = absurd cc

  layer_out : (l : Instr-F Instr) → is_simple k (head l) ≡ true → is_constant_layer c l ≡ true → LeavesOne (layer_form c [] l) t → OneOut l
  layer_out (Instr-F.Pure op) h f o = op_out op h o
  layer_out (Instr-F.GlobalGet x) h f o = global_out x h (slice_get c.globals x) refl f o
  layer_out l h f o = absurd cc

  pub constant_out : (code : List Instr) → is_one_simple k code ≡ true → TypedConstant c code t → ConstantOut k code t c1
  constant_out [] h d = absurd cc
  constant_out (i ∷ (j ∷ code)) h d = absurd cc
  constant_out (i ∷ []) h d =
      let o = layer_out (out-Instr i) h (and_left (is_constant c i) true d.constant) (leaves_one c i t d.typed) in
      let same : cross_instr i tt ≡ crossed (out-Instr i) ∷ [] = ap (λ j. cross_instr j tt) (sym (roll-out-Instr i)) ∙ instr_out (out-Instr i) in
      record {
        crosses = (o.0, tt);
        typed = subst (λ code. typing1.TypedConstant c1 code (cross_type t)) (sym (ap (λ code. code ++ []) same)) (record {
          constant = (o.1, tt);
          typed = old.more c1 (crossed (out-Instr i)) [] [] [] (cross_type t ∷ []) (cross_type t ∷ []) o.2 (old.none c1 (cross_type t ∷ []));
        });
      }
