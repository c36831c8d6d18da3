-- No operand is lost in a constant expression but for another of its type: so all that is put on the stack is of the type
-- that is left.
use Rattle.std.proofs.Common.{◌≡◌, ℕ, Bool, true, false, not, ◌||◌, List, [], ◌∷◌, ◌++◌, Option, Some, None, refl, sym, ap, ◌∙◌, subst}
use Rattle.std.specs.Prelude.{slice_get}
use Rattle.std.specs.List.{AllByRecursion, list_any}
use Rattle.wasm_ast.specs.Marking.{is_marked}
use Rattle.wasm_ast.specs.declared.module.ty.Ty.{Ty}
use Rattle.wasm_ast.specs.declared.module.ty.Ty.TheVariants as types
use Rattle.wasm_ast.specs.declared.module.op.Op.{Op}
use Rattle.wasm_ast.specs.declared.module.op.Op.TheVariants as ops
use Rattle.wasm_ast.specs.declared.module.code.Instr.{Instr, out-Instr}
use Rattle.wasm_ast.specs.declared.module.code.Instr.TheOpen.{Instr-F}
use Rattle.typing_kit.specs.Form.{Flat}
use Rattle.typed_trees.specs.declared.global_type.GlobalType.{GlobalType}
use Rattle.typed_trees.specs.Contexts.{Context, is_reference_type}
use Rattle.typed_trees.specs.Constants.{is_constant_op, is_constant_layer}
use Rattle.typed_trees.specs.Forms.{InstrForm, form, layer_form, op_form, where_some, where_true}
use Rattle.typed_trees.specs.Operands.{int_type}
use Rattle.pass_plain.specs.Foldable.{is_integer}
use Rattle.pass_plain.proofs.ConstantFlow.{flat_form, Flows}

none_of_both : (a b : Bool) → (a || b) ≡ false → (a ≡ false) × (b ≡ false)
none_of_both true b h = let no : ⊥ = cc in absurd no
none_of_both false b h = (refl, h)

none_in_both : {X : Type 0} (p : X → Bool) (xs ys : List X) → list_any p (xs ++ ys) ≡ false → (list_any p xs ≡ false) × (list_any p ys ≡ false)
none_in_both p [] ys h = (refl, h)
none_in_both p (x ∷ xs) ys h =
    let here = none_of_both (p x) (list_any p (xs ++ ys)) h in
    let rest = none_in_both p xs ys here.1 in
    (ap (λ b. b || list_any p xs) here.0 ∙ rest.0, rest.1)

none_in_appended : {X : Type 0} (p : X → Bool) (xs ys : List X) → list_any p xs ≡ false → list_any p ys ≡ false → list_any p (xs ++ ys) ≡ false
none_in_appended p [] ys h k = k
none_in_appended p (x ∷ xs) ys h k =
    let here = none_of_both (p x) (list_any p xs) h in
    ap (λ b. b || list_any p (xs ++ ys)) here.0 ∙ none_in_appended p xs ys here.1 k

abbrev pub is_other : Ty → Bool
is_other t = not (is_integer t)

pub integer_alone : (t : Ty) → is_integer t ≡ true → list_any is_other (t ∷ []) ≡ false
integer_alone t h = ap (λ b. not b || false) h

-- references are no integers
pub no_reference : (t : Ty) (takes gives : List Ty) (q : Bool) → is_reference_type t ≡ q → where_true q (Flat [] (t ∷ [])) ≡ Flat takes gives → list_any is_other gives ≡ false → ⊥
no_reference t takes gives false r e h = let no : ⊥ = cc in no
no_reference t takes gives true r e h =
    let one : t ∷ [] ≡ gives = cc in
    by t r (ap (list_any is_other) one ∙ h)
  where
    by : (u : Ty) → is_reference_type u ≡ true → list_any is_other (u ∷ []) ≡ false → ⊥
    by types.Func r h = let no : ⊥ = cc in no
    by types.Extern r h = let no : ⊥ = cc in no
    by types.Exn r h = let no : ⊥ = cc in no
    by u r h = let no : ⊥ = cc in no

pub no_function : (o : Option ℕ) (q : Bool) (takes gives : List Ty) → where_some o (λ t. where_true q (Flat [] (types.Func ∷ []))) ≡ Flat takes gives → list_any is_other gives ≡ false → ⊥
no_function None q takes gives e h = let no : ⊥ = cc in no
no_function (Some t) true takes gives e h = no_reference types.Func takes gives true refl e h
no_function (Some t) false takes gives e h = let no : ⊥ = cc in no

module _ (c : Context) (p : Ty → Bool) where
  -- what an instruction gives
  abbrev pub GivesNone : Instr-F Instr → Type 0
  GivesNone l = (a b : List Ty) → layer_form c [] l ≡ Flat a b → list_any p b ≡ false

  nothing_taken : (t : Ty) (a b : List Ty) → flat_form [] (t ∷ []) ≡ Flat a b → list_any p a ≡ false
  nothing_taken t a b e =
      let nothing : [] ≡ a = cc in
      ap (list_any p) (sym nothing)

  true_taken : (t : Ty) (a b : List Ty) (q : Bool) → where_true q (Flat [] (t ∷ [])) ≡ Flat a b → list_any p a ≡ false
  true_taken t a b true e = nothing_taken t a b e
  true_taken t a b false e = let no : ⊥ = cc in absurd no

  func_taken : (o : Option ℕ) (q : Bool) (a b : List Ty) → where_some o (λ t. where_true q (Flat [] (types.Func ∷ []))) ≡ Flat a b → list_any p a ≡ false
  func_taken None q a b e = let no : ⊥ = cc in absurd no
  func_taken (Some t) q a b e = true_taken types.Func a b q e

  global_taken : (o : Option GlobalType) (a b : List Ty) → where_some o (λ g. Flat [] (g.ty ∷ [])) ≡ Flat a b → list_any p a ≡ false
  global_taken None a b e = let no : ⊥ = cc in absurd no
  global_taken (Some g) a b e = nothing_taken g.ty a b e

  op_taken : (op : Op) (a b : List Ty) → is_constant_op op ≡ true → op_form c op ≡ Flat a b → list_any p b ≡ false → list_any p a ≡ false
  op_taken (ops.I32Const i) a b k e h = nothing_taken types.I32 a b e
  op_taken (ops.I64Const i) a b k e h = nothing_taken types.I64 a b e
  op_taken (ops.V128Const v) a b k e h = nothing_taken types.V128 a b e
  op_taken (ops.RefNull t) a b k e h = true_taken t a b (is_reference_type t) e
  op_taken (ops.RefFunc x) a b k e h = func_taken (slice_get c.funcs x) (is_marked c.refs x) a b e
  op_taken (ops.Binary w op) a b k e h =
      let two : int_type w ∷ (int_type w ∷ []) ≡ a = cc in
      let one : int_type w ∷ [] ≡ b = cc in
      let given = none_of_both (p (int_type w)) false (ap (list_any p) one ∙ h) in
      ap (list_any p) (sym two) ∙ ap (λ q. q || (q || false)) given.0
  op_taken op a b k e h = let no : ⊥ = cc in absurd no

  layer_taken : (l : Instr-F Instr) (a b : List Ty) → is_constant_layer c l ≡ true → layer_form c [] l ≡ Flat a b → list_any p b ≡ false → list_any p a ≡ false
  layer_taken (Instr-F.Pure op) a b k e h = op_taken op a b k e h
  layer_taken (Instr-F.GlobalGet x) a b k e h = global_taken (slice_get c.globals x) a b e
  layer_taken l a b k e h = let no : ⊥ = cc in absurd no

  same_gives : (f : InstrForm) (takes gives a b : List Ty) → f ≡ Flat takes gives → f ≡ Flat a b → gives ≡ b
  same_gives f takes gives a b e e' =
      let both : flat_form takes gives ≡ Flat a b = sym e ∙ e' in
      cc

  -- The lemma.
  pub none_given : (code : List Instr) (s t : List Ty) → Flows c code s t → list_any p t ≡ false → (list_any p s ≡ false) × AllByRecursion (λ i. GivesNone (out-Instr i)) code
  none_given [] s t f h = (ap (list_any p) f ∙ h, tt)
  none_given (i ∷ code) s t f h =
      let rest = none_given code (f.0 ++ f.2) t f.6 h in
      let parts = none_in_both p f.0 f.2 rest.0 in (
        ap (list_any p) f.3 ∙ none_in_appended p f.0 f.1 parts.0 (layer_taken (out-Instr i) f.1 f.2 f.5 f.4 parts.1),
        ((λ a b e. ap (list_any p) (sym (same_gives (form c [] i) f.1 f.2 a b f.4 e)) ∙ parts.1), rest.1),
      )
