-- A body is typed exactly where its locals are and its code is under the results of its function.
use Rattle.std.proofs.Common.{◌≡◌, Bool, true, false, List, [], ◌∷◌, ◌++◌, Some, ap, sym, subst, ◌∙◌}
use Rattle.std.specs.List.{list_all}
use Rattle.core1_ast.specs.declared.module.ty.Ty1.{Ty1}
use Rattle.core1_ast.specs.declared.module.ty.BlockType1.{BlockType1}
use Rattle.core1_ast.specs.declared.module.ty.FuncType1.{FuncType1}
use Rattle.core1_ast.specs.declared.module.code.Body1.{Body1}
use Rattle.core1_ast.specs.declared.module.parts.Module1.{Module1}
use Rattle.core1_ast.specs.Operands.{block_results}
use Rattle.core1_ast.specs.Spaces.{func_indices, all_tables, all_memories, all_globals}
use Rattle.core1_ast.specs.Code.{Context}
use Rattle.core1_ast.specs.Typing.{TypedBody, body_context}
use Rattle.typing_kit.specs.Matching.{known}
use Rattle.typing_kit.specs.Typing.{TypedCode}
use Rattle.valid_core1.specs.declared.scope.Scope.{Scope}
use Rattle.valid_core1.specs.Forms.{language, is_integer}
use Rattle.valid_core1.specs.Scopes.{context_of, label_types}
use Rattle.valid_core1.specs.Checks.{Decided, IsInside}
use Rattle.valid_core1.proofs.Rules.{integers_typed, typed_integers, same_rules}

-- the context of a body by its parts
abbrev context_by : Module1 → List Ty1 → List Ty1 → List Ty1 → Context
context_by m params locals results = record {
  types = m.types;
  funcs = func_indices m;
  tables = all_tables m;
  memories = all_memories m;
  globals = all_globals m;
  locals = params ++ locals;
  labels = [];
  returns = Some results;
}

decided_along : (r : Bool) (P Q : Type 0) → (P → Q) → (Q → P) → Decided r P → Decided r Q
decided_along true P Q f g d = f d
decided_along false P Q f g d = λ q. d (g q)

module _ (m : Module1) (t : FuncType1) (body : Body1) where
  pub bad_locals : (b : Bool) → b ≡ list_all is_integer body.locals → b ≡ false → TypedBody m t body → ⊥
  bad_locals b e f h = let no : true ≡ false = sym (typed_integers body.locals h.locals) ∙ sym e ∙ f in cc

  same_context : (s : Scope) → s.module.now ≡ m → s.params.now ≡ t.params → s.locals.now ≡ body.locals → block_results s.results ≡ t.results → context_of s ≡ context_by m t.params body.locals t.results
  same_context s em ep el er =
      ap (λ x. context_by x s.params.now s.locals.now (block_results s.results)) em
      ∙ ap (λ x. context_by m x s.locals.now (block_results s.results)) ep
      ∙ ap (λ x. context_by m t.params x (block_results s.results)) el
      ∙ ap (context_by m t.params body.locals) er

  module _ (s : Scope) (labels : List BlockType1) (results : BlockType1) (em : s.module.now ≡ m) (ep : s.params.now ≡ t.params) (el : s.locals.now ≡ body.locals) (es : s.results ≡ results) (er : block_results results ≡ t.results) (none : labels ≡ []) where
    same_inside : IsInside s labels results results body.code ≡ TypedCode (language (body_context m t body)) (t.results ∷ []) body.code [] (known t.results)
    unfolding IsInside
    same_inside =
        ap (λ l. TypedCode (language (context_of s)) (block_results results ∷ label_types l) body.code [] (known (block_results results))) none
        ∙ ap (λ rs. TypedCode (language (context_of s)) (rs ∷ []) body.code [] (known rs)) er
        ∙ ap (λ c. TypedCode (language c) (t.results ∷ []) body.code [] (known t.results)) (same_context s em ep el (ap block_results es ∙ er))

    pub body_decided : (b r : Bool) → b ≡ list_all is_integer body.locals → b ≡ true → Decided r (IsInside s labels results results body.code) → Decided r (TypedBody m t body)
    body_decided b r e f d =
        decided_along r _ _
        (λ inside. record { locals = integers_typed body.locals (sym e ∙ f); code = (same_rules (body_context m t body) body.code [] t.results).0 inside })
        (λ h. (same_rules (body_context m t body) body.code [] t.results).1 h.code)
        (subst (Decided r) same_inside d)
