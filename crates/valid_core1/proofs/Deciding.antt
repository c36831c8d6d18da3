-- What the tests of parts decide.
use Rattle.std.proofs.Common.{◌≡◌, ℕ, ◌≤◌, ◌<◌, Bool, true, ◌&&◌, nat_le, nat_lt, List, [], ◌∷◌, length, map, refl, ap, sym, subst, arith}
use Rattle.std.specs.List.{AllByRecursion, list_all}
use Rattle.std.proofs.lemmas.Bool.Decides.{nat_tests}
use Rattle.core1_ast.specs.declared.module.ty.Ty1.TheVariants as types
use Rattle.core1_ast.specs.declared.module.ty.FuncType1.{FuncType1}
use Rattle.core1_ast.specs.declared.module.parts.Global1.{Global1}
use Rattle.core1_ast.specs.declared.module.parts.Element1.{Element1}
use Rattle.core1_ast.specs.declared.module.parts.Segment1.{Segment1}
use Rattle.core1_ast.specs.declared.module.parts.Module1.{Module1}
use Rattle.core1_ast.specs.Spaces.{GlobalType, func_indices, imported_globals}
use Rattle.core1_ast.specs.Typing.{TypedFuncType, TypedGlobal, TypedElement, TypedSegment, context, imports_context}
use Rattle.valid_core1.specs.declared.spaces.Spaces.{Spaces}
use Rattle.valid_core1.specs.Constants.{is_constant}
use Rattle.valid_core1.specs.Scopes.{AreSpaces, global_type}
use Rattle.valid_core1.specs.Forms.{is_integer}
use Rattle.valid_core1.specs.Checks.{Decided}
use Rattle.valid_core1.proofs.Rules.{and_both, and_first, and_second, integers_typed, typed_integers, integer_typed, typed_integer}
use Rattle.valid_core1.proofs.Decisions.{decided_by}
use Rattle.valid_core1.proofs.Constants.{constant_true, true_constant}

pub type_decided : (r : Bool) (t : FuncType1) → r ≡ (list_all is_integer t.params && list_all is_integer t.results && nat_le (length t.results) 1) → Decided r (TypedFuncType t)
type_decided r t e = decided_by r _ (TypedFuncType t) e
    (λ b. record {
      params = integers_typed t.params (and_first _ (list_all is_integer t.results) (and_first _ (nat_le (length t.results) 1) b));
      results = integers_typed t.results (and_second (list_all is_integer t.params) _ (and_first _ (nat_le (length t.results) 1) b));
      one = (let h : nat_le (length t.results) 1 ≡ true = and_second (list_all is_integer t.params && list_all is_integer t.results) _ b in grind (arith, nat_tests));
    })
    (λ h. and_both _ _ (and_both _ _ (typed_integers t.params h.params) (typed_integers t.results h.results)) (let k : length t.results ≤ 1 = h.one in grind (arith, nat_tests)))

module _ (m : Module1) where
  pub global_decided : (r : Bool) (g : Global1) (globals : List GlobalType) → globals ≡ imported_globals m → r ≡ (is_integer g.ty && is_constant globals g.init g.ty) → Decided r (TypedGlobal m g)
  global_decided r g globals e f = decided_by r _ (TypedGlobal m g) f
      (λ b. record { type = integer_typed g.ty (and_first _ (is_constant globals g.init g.ty) b); init = constant_true (imports_context m) globals g.init g.ty (sym e) (and_second (is_integer g.ty) _ b) })
      (λ h. and_both _ _ (typed_integer g.ty h.type) (true_constant (imports_context m) globals g.init g.ty (sym e) h.init))

  lt_true : (a b : ℕ) → a < b → nat_lt a b ≡ true
  lt_true a b h = grind (arith, nat_tests)

  true_lt : (a b : ℕ) → nat_lt a b ≡ true → a < b
  true_lt a b e = grind (arith, nat_tests)

  below_true : (n : ℕ) (xs : List ℕ) → AllByRecursion (λ x. x < n) xs → list_all (λ x. nat_lt x n) xs ≡ true
  below_true n [] h = refl
  below_true n (x ∷ xs) h = and_both _ _ (lt_true x n h.0) (below_true n xs h.1)

  true_below : (n : ℕ) (xs : List ℕ) → list_all (λ x. nat_lt x n) xs ≡ true → AllByRecursion (λ x. x < n) xs
  true_below n [] e = tt
  true_below n (x ∷ xs) e = (true_lt x n (and_first _ (list_all (λ y. nat_lt y n) xs) e), true_below n xs (and_second (nat_lt x n) _ e))

  module _ (s : Spaces) (are : AreSpaces m s) where
    pub element_decided : (r : Bool) (e : Element1) → r ≡ (nat_lt e.table s.tables && is_constant (map global_type s.globals) e.offset types.I32 && list_all (λ x. nat_lt x (length s.funcs)) e.items) → Decided r (TypedElement m e)
    element_decided r e f =
        let n : length s.funcs ≡ length (func_indices m) = ap length are.funcs in
        decided_by r _ (TypedElement m e) f
        (λ b. (let two = and_first (nat_lt e.table s.tables && is_constant (map global_type s.globals) e.offset types.I32) (list_all (λ x. nat_lt x (length s.funcs)) e.items) b in
        record {
          table = subst (λ k. e.table < k) are.tables (true_lt e.table s.tables (and_first _ (is_constant (map global_type s.globals) e.offset types.I32) two));
          offset = constant_true (context m) (map global_type s.globals) e.offset types.I32 (sym are.globals) (and_second (nat_lt e.table s.tables) _ two);
          items = subst (λ k. AllByRecursion (λ x. x < k) e.items) n (true_below (length s.funcs) e.items (and_second (nat_lt e.table s.tables && is_constant (map global_type s.globals) e.offset types.I32) _ b));
        }))
        (λ h. and_both _ _ (and_both _ _ (lt_true e.table s.tables (subst (λ k. e.table < k) (sym are.tables) h.table)) (true_constant (context m) (map global_type s.globals) e.offset types.I32 (sym are.globals) h.offset))
        (below_true (length s.funcs) e.items (subst (λ k. AllByRecursion (λ x. x < k) e.items) (sym n) h.items)))

    pub segment_decided : (r : Bool) (d : Segment1) → r ≡ (nat_lt d.memory s.memories && is_constant (map global_type s.globals) d.offset types.I32) → Decided r (TypedSegment m d)
    segment_decided r d f = decided_by r _ (TypedSegment m d) f
        (λ b. record {
          memory = subst (λ k. d.memory < k) are.memories (true_lt d.memory s.memories (and_first _ (is_constant (map global_type s.globals) d.offset types.I32) b));
          offset = constant_true (context m) (map global_type s.globals) d.offset types.I32 (sym are.globals) (and_second (nat_lt d.memory s.memories) _ b);
        })
        (λ h. and_both _ _ (lt_true d.memory s.memories (subst (λ k. d.memory < k) (sym are.memories) h.memory)) (true_constant (context m) (map global_type s.globals) d.offset types.I32 (sym are.globals) h.offset))
