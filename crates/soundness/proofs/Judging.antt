-- Two runs side by side, from a typed configuration: they come to the same, which is typed. The first run asks for the types
-- of operands, and the second does not.
use Rattle.std.proofs.Common.{◌≡◌, ℕ, zero, suc, ◌-◌, ◌≤◌, List, [], ◌∷◌, ◌++◌, reverse, Option, Some, None, refl, sym, ap, subst, arith, le_refl, le_trans}
use Rattle.wasm_ast.specs.declared.module.ty.Ty.{Ty}
use Rattle.wasm_ast.specs.declared.module.ty.FuncType.{FuncType}
use Rattle.wasm_ast.specs.declared.module.parts.Module.{Module}
use Rattle.typed_trees.specs.Contexts.{Context, func_type}
use Rattle.typed_trees.specs.Modules.{context}
use Rattle.outcome_kit.specs.Outcome.{Out, Done, Halt, after, bind, turn}
use Rattle.outcome_kit.specs.Code.{Go, Leave, go_on, run}
use Rattle.evaluation_kit.specs.Configurations.{World, Conf, Plain, PlainRes, Res, Sem, plain_of, settled}
use Rattle.evaluation_kit.specs.Control.{leaf}
use Rattle.evaluation_kit.specs.Tasks.{plain_result}
use Rattle.meaning_new.specs.declared.val.Val.{Val}
use Rattle.meaning_new.specs.Store.{State}
use Rattle.soundness.specs.States.{made, StateTyped, PlainTyped, OnTop, ResultTyped, CallResultTyped}
use Rattle.soundness.specs.Laws.{OutcomeTyped, Safe}

module _ (m : Module) where
  pub safe_done : {R : Type 0} (Q : R → Type 0) (r : R) → Q r → Safe m Q (Done 0 r) (Done 0 r)
  safe_done Q r q = record { same = refl; typed = q }

  typed_after : {R : Type 0} (Q : R → Type 0) (u : ℕ) (o : Out (World State) R) → OutcomeTyped m Q o → OutcomeTyped m Q (after u o)
  typed_after Q u (Done v r) q = q
  typed_after Q u (Halt w) q = q

  pub safe_after : {R : Type 0} (Q : R → Type 0) (u : ℕ) (o o' : Out (World State) R) → Safe m Q o o' → Safe m Q (after u o) (after u o')
  safe_after Q u o o' h = record { same = ap (after u) h.same; typed = typed_after Q u o h.typed }

  pub safe_bind : {R R' : Type 0} (Q : R → Type 0) (Q' : R' → Type 0) (n : ℕ) (o o' : Out (World State) R) (k k' : R → ℕ → Out (World State) R') → Safe m Q o o' → ((r : R) (j : ℕ) → j ≤ n → Q r → Safe m Q' (k r j) (k' r j)) → Safe m Q' (bind n o k) (bind n o' k')
  safe_bind {R = R} Q Q' n o o' k k' h next = subst (λ x. Safe m Q' (bind n o k) (bind n x k')) h.same (from o h.typed)
    where
      from : (x : Out (World State) R) → OutcomeTyped m Q x → Safe m Q' (bind n x k) (bind n x k')
      from (Done u r) q = let less : n - u ≤ n = omega arith in safe_after Q' u (k r (n - u)) (k' r (n - u)) (next r (n - u) less q)
      from (Halt w) q = record { same = refl; typed = q }

  pub safe_turn : {R : Type 0} (Q : R → Type 0) (n : ℕ) (w : World State) (f f' : ℕ → Out (World State) R) → StateTyped m w.state → ((j : ℕ) → n ≡ suc j → Safe m Q (f j) (f' j)) → Safe m Q (turn n w f) (turn n w f')
  safe_turn Q zero w f f' h next = record { same = refl; typed = h }
  safe_turn Q (suc j) w f f' h next = safe_after Q 1 (f j) (f' j) (next j refl)

  pub safe_weaker : {R : Type 0} (Q Q' : R → Type 0) (o o' : Out (World State) R) → ((r : R) → Q r → Q' r) → Safe m Q o o' → Safe m Q' o o'
  safe_weaker {R = R} Q Q' o o' f h = record { same = h.same; typed = from o h.typed }
    where
      from : (x : Out (World State) R) → OutcomeTyped m Q x → OutcomeTyped m Q' x
      from (Done u r) q = f r q
      from (Halt w) q = q

  -- what code may come to under these labels
  abbrev pub Ended : Context → List (List Ty) → Option (List Ty) → ℕ → Res Val State → Type 0
  Ended c ls end k r = ResultTyped m c ls end k (plain_result r)

  -- Code over these operands, the top first, within N turns. Its end leaves the second ones, or is never reached.
  pub record CodeSafe (N : ℕ) (c : Context) (ls : List (List Ty)) (stack : List Ty) (end : Option (List Ty)) (a b : Sem Val State) : Type 0 where
    pub by : (d n : ℕ) (x : Conf Val State) → n ≤ N → PlainTyped m c stack (plain_of x) → Safe m (Ended c ls end (made x.world.state)) (a d n x) (b d n x)

  -- an instruction over operands that it leaves as they are, by its types with the top last; and one behind which nothing
  -- is reached
  abbrev pub NodeSafe : ℕ → Context → List (List Ty) → List Ty → List Ty → Sem Val State → Sem Val State → Type 0
  NodeSafe N c ls takes gives a b = (rest : List Ty) → CodeSafe N c ls (reverse takes ++ rest) (Some (reverse gives ++ rest)) a b

  abbrev pub LeaveSafe : ℕ → Context → List (List Ty) → List Ty → Sem Val State → Sem Val State → Type 0
  LeaveSafe N c ls takes a b = (rest : List Ty) → CodeSafe N c ls (reverse takes ++ rest) None a b

  -- plain instructions
  pub record ActSafe (c : Context) (ls : List (List Ty)) (stack : List Ty) (end : Option (List Ty)) (act : Plain Val State → PlainRes Val State) : Type 0 where
    pub by : (p : Plain Val State) → PlainTyped m c stack p → ResultTyped m c ls end (made p.state) (act p)

  pub plain_settled : (w : World State) (r : PlainRes Val State) → plain_result (settled w r) ≡ r
  plain_settled w (Go p) = refl
  plain_settled w (Leave j p) = refl

  pub leaf_safe : (N : ℕ) (c : Context) (ls : List (List Ty)) (stack : List Ty) (end : Option (List Ty)) (act : Plain Val State → PlainRes Val State) → ActSafe c ls stack end act → CodeSafe N c ls stack end (leaf act) (leaf act)
  leaf_safe N c ls stack end act h = record {
    by = λ d n x le t. safe_done (Ended c ls end (made x.world.state)) (settled x.world (act (plain_of x)))
        (subst (ResultTyped m c ls end (made x.world.state)) (sym (plain_settled x.world (act (plain_of x)))) (h.by (plain_of x) t));
  }

  -- functions within N turns, by their types: their parameters lie on the top
  pub record FuncsSafe (N : ℕ) (funcs others : ℕ → Sem Val State) : Type 0 where
    pub by : (x : ℕ) (t : FuncType) → func_type (context m) x ≡ Some t → (d n : ℕ) (c : Conf Val State) → n ≤ N → OnTop m (made c.world.state) c.operands (reverse t.params) → StateTyped m c.world.state → Safe m (λ r. CallResultTyped m t.results (made c.world.state) (plain_result r)) (funcs x d n c) (others x d n c)

  -- a result after later exceptions, and a code that ends nowhere
  pub result_later : (c : Context) (ls : List (List Ty)) (end : Option (List Ty)) (k j : ℕ) (r : PlainRes Val State) → k ≤ j → ResultTyped m c ls end j r → ResultTyped m c ls end k r
  result_later c ls end k j (Go p) le h = (h.0, le_trans le h.1)
  result_later c ls end k j (Leave i p) le h = record { jump = h.jump; locals = h.locals; state = h.state; extends = le_trans le h.extends }

  never_ends : (c : Context) (ls : List (List Ty)) (end : Option (List Ty)) (k : ℕ) (r : PlainRes Val State) → ResultTyped m c ls None k r → ResultTyped m c ls end k r
  never_ends c ls end k (Go p) h = absurd h.0
  never_ends c ls end k (Leave i p) h = h

  pub code_never_ends : (N : ℕ) (c : Context) (ls : List (List Ty)) (stack : List Ty) (end : Option (List Ty)) (a b : Sem Val State) → CodeSafe N c ls stack None a b → CodeSafe N c ls stack end a b
  code_never_ends N c ls stack end a b h = record {
    by = λ d n x le t. safe_weaker (Ended c ls None (made x.world.state)) (Ended c ls end (made x.world.state)) (a d n x) (b d n x) (λ r q. never_ends c ls end (made x.world.state) (plain_result r) q) (h.by d n x le t);
  }

  -- nothing, and code behind code
  pub nothing_safe : (N : ℕ) (c : Context) (ls : List (List Ty)) (stack : List Ty) → CodeSafe N c ls stack (Some stack) (run []) (run [])
  nothing_safe N c ls stack = record { by = λ d n x le t. safe_done (Ended c ls (Some stack) (made x.world.state)) (Go x) (t, le_refl (made x.world.state)) }

  pub then_safe : (N : ℕ) (c : Context) (ls : List (List Ty)) (stack middle : List Ty) (end : Option (List Ty)) (a b : Sem Val State) (more others : List (Sem Val State)) → CodeSafe N c ls stack (Some middle) a b → CodeSafe N c ls middle end (run more) (run others) → CodeSafe N c ls stack end (run (a ∷ more)) (run (b ∷ others))
  then_safe N c ls stack middle end a b more others first rest = record {
    by = λ d n x le t. safe_bind (Ended c ls (Some middle) (made x.world.state)) (Ended c ls end (made x.world.state)) n (a d n x) (b d n x) (go_on (run more d)) (go_on (run others d)) (first.by d n x le t) (λ r j less q. next x d j r (le_trans less le) q);
  }
    where
      next : (x : Conf Val State) (d j : ℕ) (r : Res Val State) → j ≤ N → Ended c ls (Some middle) (made x.world.state) r → Safe m (Ended c ls end (made x.world.state)) (go_on (run more d) r j) (go_on (run others d) r j)
      next x d j (Go y) le q =
          safe_weaker (Ended c ls end (made y.world.state)) (Ended c ls end (made x.world.state)) (run more d j y) (run others d j y)
          (λ r. result_later c ls end (made x.world.state) (made y.world.state) (plain_result r) q.1)
          (rest.by d j y le q.0)
      next x d j (Leave i y) le q = safe_done (Ended c ls end (made x.world.state)) (Leave i y) q

  -- code that ends nowhere, whatever stands behind it
  pub last_safe : (N : ℕ) (c : Context) (ls : List (List Ty)) (stack : List Ty) (end : Option (List Ty)) (a b : Sem Val State) (more others : List (Sem Val State)) → CodeSafe N c ls stack None a b → CodeSafe N c ls stack end (run (a ∷ more)) (run (b ∷ others))
  last_safe N c ls stack end a b more others first = record {
    by = λ d n x le t. safe_bind (Ended c ls None (made x.world.state)) (Ended c ls end (made x.world.state)) n (a d n x) (b d n x) (go_on (run more d)) (go_on (run others d)) (first.by d n x le t) (λ r j less q. next x d j r q);
  }
    where
      next : (x : Conf Val State) (d j : ℕ) (r : Res Val State) → Ended c ls None (made x.world.state) r → Safe m (Ended c ls end (made x.world.state)) (go_on (run more d) r j) (go_on (run others d) r j)
      next x d j (Go y) q = absurd q.0
      next x d j (Leave i y) q = safe_done (Ended c ls end (made x.world.state)) (Leave i y) q
