-- What the tests of parts decide.
use Rattle.std.proofs.Common.{◌≡◌, ◌==◌, ℕ, Bool, true, false, ◌&&◌, List, [], ◌∷◌, length, Option, Some, None, option_map, slice_get, refl, ap, sym, subst, ◌∙◌, arith}
use Rattle.std.specs.Borrow.{Bor}
use Rattle.std.specs.List.{AllByRecursion, list_all}
use Rattle.std.proofs.lemmas.Bool.Decides.{nat_tests}
use Rattle.wasm_ast.specs.declared.module.ty.Ty.{Ty}
use Rattle.wasm_ast.specs.declared.module.ty.FuncType.{FuncType}
use Rattle.wasm_ast.specs.declared.module.parts.Module.{Module}
use Rattle.typed_trees.specs.Contexts.{Context, func_type, is_value_type}
use Rattle.typed_trees.specs.Modules.{context, TypedFuncType, TypedStartFunc, TypedTag}
use Rattle.valid_new.specs.Judged.{Decided}

-- a test that is true exactly where the fact holds decides it
pub decided_by : (r b : Bool) (P : Type 0) → r ≡ b → (b ≡ true → P) → (P → b ≡ true) → Decided r P
decided_by true b P e f g = f (sym e)
decided_by false b P e f g = λ p. (let no : false ≡ true = e ∙ g p in cc)

-- what a decided fact is at an answer
pub decided_yes : (r : Bool) (P : Type 0) → Decided r P → r ≡ true → P
decided_yes true P d e = d
decided_yes false P d e = let no : ⊥ = cc in absurd no

pub decided_no : (r : Bool) (P : Type 0) → Decided r P → r ≡ false → P → ⊥
decided_no true P d e = let no : ⊥ = cc in absurd no
decided_no false P d e = d

-- a fact that is decided, of which another one follows and from which it follows
pub decided_as : (r : Bool) (P Q : Type 0) → (P → Q) → (Q → P) → Decided r P → Decided r Q
decided_as true P Q f g d = f d
decided_as false P Q f g d = λ q. d (g q)

pub and_first : (a b : Bool) → (a && b) ≡ true → a ≡ true
and_first true b e = refl
and_first false b e = e

pub and_second : (a b : Bool) → (a && b) ≡ true → b ≡ true
and_second true b e = e
and_second false b e = let no : ⊥ = cc in absurd no

pub and_both : (a b : Bool) → a ≡ true → b ≡ true → (a && b) ≡ true
and_both a b e f = ap (λ x. x && b) e ∙ f

values_all : (ts : List Ty) → list_all is_value_type ts ≡ true → AllByRecursion (λ s. is_value_type s ≡ true) ts
values_all [] h = tt
values_all (t ∷ ts) h = (and_first (is_value_type t) (list_all is_value_type ts) h, values_all ts (and_second (is_value_type t) (list_all is_value_type ts) h))

all_values : (ts : List Ty) → AllByRecursion (λ s. is_value_type s ≡ true) ts → list_all is_value_type ts ≡ true
all_values [] h = refl
all_values (t ∷ ts) h = and_both (is_value_type t) (list_all is_value_type ts) h.0 (all_values ts h.1)

pub type_decided : (r : Bool) (t : FuncType) → r ≡ (list_all is_value_type t.params && list_all is_value_type t.results) → Decided r (TypedFuncType t)
type_decided r t e = decided_by r _ (TypedFuncType t) e
    (λ b. record {
      params = values_all t.params (and_first _ (list_all is_value_type t.results) b);
      results = values_all t.results (and_second (list_all is_value_type t.params) _ b);
    })
    (λ h. and_both _ _ (all_values t.params h.params) (all_values t.results h.results))

zero_of : (n : ℕ) → (n == 0) ≡ true → n ≡ 0
zero_of n e = grind (arith, nat_tests)

of_zero : (n : ℕ) → n ≡ 0 → (n == 0) ≡ true
of_zero n e = grind (arith, nat_tests)

empty_of : (ts : List Ty) → length ts ≡ 0 → ts ≡ []
empty_of [] e = refl
empty_of (t ∷ ts) e = absurd (omega arith)

pub empty_decided : (r : Bool) (ts : List Ty) → r ≡ (length ts == 0) → Decided r (ts ≡ [])
empty_decided r ts e = decided_by r (length ts == 0) (ts ≡ []) e (λ b. empty_of ts (zero_of (length ts) b)) (λ h. of_zero (length ts) (ap length h))

-- the type that a look-up found
found_type : (o : Option (Bor FuncType)) (p : Option FuncType) (t : Bor FuncType) → option_map (λ u. u.now) o ≡ p → o ≡ Some t → p ≡ Some t.now
found_type o p t e f = sym e ∙ ap (option_map (λ u. u.now)) f

no_type : (o : Option (Bor FuncType)) (p : Option FuncType) → option_map (λ u. u.now) o ≡ p → o ≡ None → p ≡ None
no_type o p e f = sym e ∙ ap (option_map (λ u. u.now)) f

module _ (m : Module) (o : Option (Bor FuncType)) where
  pub tag_typed : (index : ℕ) (t : Bor FuncType) (r : Bool) → option_map (λ u. u.now) o ≡ slice_get m.types index → o ≡ Some t → Decided r (t.now.results ≡ []) → Decided r (TypedTag m index)
  tag_typed index t r e f d =
      let at = found_type o (slice_get m.types index) t e f in
      decided_as r _ _
      (λ h. record { type = t.now; declared = at; results = h })
      (λ x. (let both : Some t.now ≡ Some x.type = sym at ∙ x.declared in let same : x.type ≡ t.now = cc in subst (λ u. u.results ≡ []) same x.results))
      d

  pub tag_untyped : (index : ℕ) → option_map (λ u. u.now) o ≡ slice_get m.types index → o ≡ None → TypedTag m index → ⊥
  tag_untyped index e f x = let no : None ≡ Some x.type = sym (no_type o (slice_get m.types index) e f) ∙ x.declared in cc

  pub start_func_typed : (s : Context) (x : ℕ) (t : Bor FuncType) (r : Bool) → s ≡ context m → option_map (λ u. u.now) o ≡ func_type s x → o ≡ Some t → Decided r ((t.now.params ≡ []) × (t.now.results ≡ [])) → Decided r (TypedStartFunc m x)
  start_func_typed s x t r c e f d =
      let at = sym (ap (λ y. func_type y x) c) ∙ found_type o (func_type s x) t e f in
      decided_as r _ _
      (λ h. record { type = t.now; declared = at; params = h.0; results = h.1 })
      (λ y. (let both : Some t.now ≡ Some y.type = sym at ∙ y.declared in let same : y.type ≡ t.now = cc in (subst (λ u. u.params ≡ []) same y.params, subst (λ u. u.results ≡ []) same y.results)))
      d

  pub start_func_untyped : (s : Context) (x : ℕ) → s ≡ context m → option_map (λ u. u.now) o ≡ func_type s x → o ≡ None → TypedStartFunc m x → ⊥
  start_func_untyped s x c e f y =
      let no : None ≡ Some y.type = sym (no_type o (func_type s x) e f) ∙ ap (λ z. func_type z x) c ∙ y.declared in
      cc
