-- Constant expressions: one value is left by one constant.
use Rattle.std.proofs.Common.{◌≡◌, ℕ, ◌+◌, Bool, true, false, cond, List, [], ◌∷◌, ◌++◌, length, Option, Some, None, slice_get, refl, ap, sym, subst, ◌∙◌, arith, length-append}
use Rattle.std.specs.List.{AllByRecursion}
use Rattle.core1_ast.specs.declared.module.ty.Ty1.{Ty1}
use Rattle.core1_ast.specs.declared.module.ty.Ty1.TheVariants as types
use Rattle.core1_ast.specs.declared.module.op.Op1.{Op1}
use Rattle.core1_ast.specs.declared.module.op.Op1.TheVariants as ops
use Rattle.core1_ast.specs.declared.module.code.Instr1.{Instr1, out-Instr1}
use Rattle.core1_ast.specs.declared.module.code.Instr1.TheOpen.{Instr1-F}
use Rattle.core1_ast.specs.declared.module.code.Instr1.TheViews as views
use Rattle.core1_ast.specs.declared.module.code.Instr1.TheVariants as instrs
use Rattle.core1_ast.specs.Spaces.{GlobalType}
use Rattle.core1_ast.specs.Code as code
use Rattle.core1_ast.specs.Code.{Context, Typed, TypedCode}
use Rattle.core1_ast.specs.Typing.{IsConstant, TypedConstant, i32_const, i64_const, fixed_global}
use Rattle.typing_kit.specs.Form.{Flat}
use Rattle.typing_kit.specs.Bottomless.{ValuesTyped}
use Rattle.typing_kit.specs.Bottomless as values
use Rattle.valid_core1.specs.Forms.{same_type, language}
use Rattle.valid_core1.specs.Constants.{const_type, fixed_type, constant_type, has_type, is_constant}
use Rattle.valid_core1.proofs.Rules.{same_type_refl, same_type_is, laid, found_is, to_forms, rolled}

-- what a typing of an instruction without choice is
values_flat : (c : Context) {ls : List (List Ty1)} {i : Instr1} {t g : List Ty1} (takes gives : List Ty1) → ValuesTyped (language c) ls i t g → (language c).form ls i ≡ Flat takes gives → (t ≡ takes) × (g ≡ gives)
values_flat c takes gives (values.flat ls i a b f) e = let both : Flat a b ≡ Flat takes gives = sym f ∙ e in (cc, cc)
values_flat c takes gives (values.any ls i kind b t f k) e = let no : ⊥ = cc in absurd no
values_flat c takes gives (values.select ls i t f k) e = let no : ⊥ = cc in absurd no
values_flat c takes gives (values.leaves ls i a below after f) e = let no : ⊥ = cc in absurd no
values_flat c takes gives (values.block ls i label a b inner f t) e = let no : ⊥ = cc in absurd no
values_flat c takes gives (values.choice ls i label a b first second f t u) e = let no : ⊥ = cc in absurd no

module _ (c : Context) where
  -- the type that a constant leaves
  record Leaves (i : Instr1) : Type 0 where
    type : Ty1
    constant : constant_type c.globals (out-Instr1 i) ≡ Some type
    form : (language c).form c.labels i ≡ Flat [] (type ∷ [])

  fixed_is : (o : Option GlobalType) (g : GlobalType) → o ≡ Some g → g.mutable ≡ false → fixed_type o ≡ Some g.type
  fixed_is o g e m = ap fixed_type e ∙ ap (λ b. cond b None (Some g.type)) m

  leaves_of : (i : Instr1) → IsConstant c i → Leaves i
  leaves_of i (i32_const _ _ n e) = record {
    type = types.I32;
    constant = ap (λ j. constant_type c.globals (out-Instr1 j)) e ∙ ap (constant_type c.globals) (views.outs-Pure (ops.I32Const n));
    form = laid c c.labels i _ _ e (views.outs-Pure (ops.I32Const n));
  }
  leaves_of i (i64_const _ _ n e) = record {
    type = types.I64;
    constant = ap (λ j. constant_type c.globals (out-Instr1 j)) e ∙ ap (constant_type c.globals) (views.outs-Pure (ops.I64Const n));
    form = laid c c.labels i _ _ e (views.outs-Pure (ops.I64Const n));
  }
  leaves_of i (fixed_global _ _ x g e h m) = record {
    type = g.type;
    constant = ap (λ j. constant_type c.globals (out-Instr1 j)) e ∙ ap (constant_type c.globals) (views.outs-GlobalGet x) ∙ fixed_is (slice_get c.globals x) g h m;
    form = laid c c.labels i _ _ e (views.outs-GlobalGet x) ∙ found_is c c.labels (slice_get c.globals x) g _ h;
  }

  -- and back
  record Constant (i : Instr1) (t : Ty1) : Type 0 where
    constant : IsConstant c i
    typed : Typed c i [] (t ∷ [])

  const_is : (i : Instr1) (op : Op1) (t : Ty1) → i ≡ instrs.Pure op → const_type op ≡ Some t → Constant i t
  const_is i (ops.I32Const n) t e f = record { constant = i32_const c i n e; typed = subst (λ u. Typed c i [] (u ∷ [])) (let same : types.I32 ≡ t = cc in same) (code.pure c i (ops.I32Const n) e) }
  const_is i (ops.I64Const n) t e f = record { constant = i64_const c i n e; typed = subst (λ u. Typed c i [] (u ∷ [])) (let same : types.I64 ≡ t = cc in same) (code.pure c i (ops.I64Const n) e) }
  const_is i _ t e f = let no : ⊥ = cc in absurd no

  global_is : (i : Instr1) (x : ℕ) (t : Ty1) → i ≡ instrs.GlobalGet x → (o : Option GlobalType) → slice_get c.globals x ≡ o → fixed_type o ≡ Some t → Constant i t
  global_is i x t e None h f = let no : ⊥ = cc in absurd no
  global_is i x t e (Some g) h f = at_mutable g.mutable refl f
    where
      at_mutable : (b : Bool) → g.mutable ≡ b → cond b None (Some g.type) ≡ Some t → Constant i t
      at_mutable true m k = let no : ⊥ = cc in absurd no
      at_mutable false m k = record { constant = fixed_global c i x g e h m; typed = subst (λ u. Typed c i [] (u ∷ [])) (let same : g.type ≡ t = cc in same) (code.global_get c i x g e h) }

  constant_is : (i : Instr1) (x : Instr1-F Instr1) (t : Ty1) → out-Instr1 i ≡ x → constant_type c.globals x ≡ Some t → Constant i t
  constant_is i (Instr1-F.Pure op) t e f = const_is i op t (rolled c c.labels i _ _ e (views.rolls-Pure op)) f
  constant_is i (Instr1-F.GlobalGet x) t e f = global_is i x t (rolled c c.labels i _ _ e (views.rolls-GlobalGet x)) (slice_get c.globals x) refl f
  constant_is i _ t e f = let no : ⊥ = cc in absurd no

  -- the parts of a typing of code
  record First (i : Instr1) (rest : List Instr1) (stack after : List Ty1) : Type 0 where
    below : List Ty1
    takes : List Ty1
    gives : List Ty1
    is : stack ≡ below ++ takes
    typed : Typed c i takes gives
    later : TypedCode c rest (below ++ gives) after

  first_of : {i : Instr1} {rest : List Instr1} {stack after : List Ty1} → TypedCode c (i ∷ rest) stack after → First i rest stack after
  first_of (code.more _ i rest below takes gives after t r) = record { below = below; takes = takes; gives = gives; is = refl; typed = t; later = r }

  none_of : {stack after : List Ty1} → TypedCode c [] stack after → stack ≡ after
  none_of (code.none _ stack) = refl

  -- a constant takes nothing and leaves one value
  leaves_flat : (i : Instr1) (l : Leaves i) (takes gives : List Ty1) → Typed c i takes gives → (takes ≡ []) × (gives ≡ l.type ∷ [])
  leaves_flat i l takes gives t = values_flat c [] (l.type ∷ []) (to_forms t) l.form

  grows : (body : List Instr1) (stack after : List Ty1) → AllByRecursion (IsConstant c) body → TypedCode c body stack after → length after ≡ length stack + length body
  grows [] stack after all t = let e = ap length (none_of t) in omega arith
  grows (i ∷ body) stack after all t =
      let f = first_of t in
      let l = leaves_of i all.0 in
      let p = leaves_flat i l f.takes f.gives f.typed in
      let later = grows body (f.below ++ f.gives) after all.1 f.later in
      let one : length f.gives ≡ 1 = ap length p.1 in
      let none : length f.takes ≡ 0 = ap length p.0 in
      let whole : length stack ≡ length (f.below ++ f.takes) = ap length f.is in
      omega (arith, length-append f.below f.gives, length-append f.below f.takes)

  nil_of_append : (a b : List Ty1) → [] ≡ a ++ b → a ≡ []
  nil_of_append [] b e = refl
  nil_of_append (x ∷ a) b e = let no : ⊥ = cc in absurd no

  one_left : (i : Instr1) (t : Ty1) → IsConstant c i → TypedCode c (i ∷ []) [] (t ∷ []) → has_type (constant_type c.globals (out-Instr1 i)) t ≡ true
  one_left i t k d =
      let f = first_of d in
      let l = leaves_of i k in
      let p = leaves_flat i l f.takes f.gives f.typed in
      let e : f.below ++ f.gives ≡ t ∷ [] = none_of f.later in
      let b = nil_of_append f.below f.takes f.is in
      let g : l.type ∷ [] ≡ t ∷ [] = sym (ap (λ x. x ++ f.gives) b ∙ p.1) ∙ e in
      let same : l.type ≡ t = cc in
      ap (λ o. has_type o t) l.constant ∙ ap (same_type l.type) (sym same) ∙ same_type_refl l.type

  typed_is_constant : (body : List Instr1) (t : Ty1) → TypedConstant c body t → is_constant c.globals body t ≡ true
  typed_is_constant [] t h = let no : [] ≡ t ∷ [] = none_of h.typed in cc
  typed_is_constant (i ∷ []) t h = one_left i t h.constant.0 h.typed
  typed_is_constant (i ∷ (j ∷ body)) t h = let e = grows (i ∷ (j ∷ body)) [] (t ∷ []) h.constant h.typed in absurd (omega arith)

  has_type_is : (o : Option Ty1) (t : Ty1) → has_type o t ≡ true → o ≡ Some t
  has_type_is None t e = let no : ⊥ = cc in absurd no
  has_type_is (Some u) t e = ap Some (same_type_is u t e)

  constant_is_typed : (body : List Instr1) (t : Ty1) → is_constant c.globals body t ≡ true → TypedConstant c body t
  constant_is_typed [] t e = let no : ⊥ = cc in absurd no
  constant_is_typed (i ∷ []) t e =
      let k = constant_is i (out-Instr1 i) t refl (has_type_is (constant_type c.globals (out-Instr1 i)) t e) in
      record { constant = (k.constant, tt); typed = code.more c i [] [] [] (t ∷ []) (t ∷ []) k.typed (code.none c (t ∷ [])) }
  constant_is_typed (i ∷ (j ∷ body)) t e = let no : ⊥ = cc in absurd no

-- the test decides, for a context with these globals
pub constant_true : (c : Context) (globals : List GlobalType) (body : List Instr1) (t : Ty1) → c.globals ≡ globals → is_constant globals body t ≡ true → TypedConstant c body t
constant_true c globals body t e h = constant_is_typed c body t (ap (λ l. is_constant l body t) e ∙ h)

pub true_constant : (c : Context) (globals : List GlobalType) (body : List Instr1) (t : Ty1) → c.globals ≡ globals → TypedConstant c body t → is_constant globals body t ≡ true
true_constant c globals body t e h = ap (λ l. is_constant l body t) (sym e) ∙ typed_is_constant c body t h
