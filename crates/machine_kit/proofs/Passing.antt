-- What is left of a run where it takes a turn.
use Rattle.std.proofs.Common.{◌≡◌, ℕ, suc, ◌+◌, ◌-◌, List, ◌∷◌, refl, ap, ◌∙◌, arith}
use Rattle.outcome_kit.specs.Outcome.{Out, Halt, after, bind}
use Rattle.outcome_kit.proofs.Outcomes.{bind-bind, bind-after}
use Rattle.evaluation_kit.specs.Configurations.{World, Conf, Res}
use Rattle.evaluation_kit.specs.Control.{Function, opened, enter, leave_body, leave_pass, cycle}
use Rattle.evaluation_kit.proofs.Loops.{cycle-pass}
use Rattle.machine_kit.specs.declared.frame.Flow.TheVariants as flows
use Rattle.machine_kit.specs.declared.head.Body.{Body}
use Rattle.machine_kit.specs.Acts.{Acts, code_in, zeros_of}
use Rattle.machine_kit.specs.Heads.{function_of}
use Rattle.machine_kit.specs.Pending.{Pending, InLoop, InBody, open_calls, rest_in, resume}
use Rattle.machine_kit.specs.Machines.{left}

module _ {I V S : Type 0} (acts : Acts I V S) where
  one_less : (m : ℕ) → suc m - 1 ≡ m
  one_less m = omega arith

  -- a part that takes a turn before others
  spent : {R : Type 0} (m : ℕ) (o : Out (World S) (Res V S)) (k : Res V S → ℕ → Out (World S) R) → bind (suc m) (after 1 o) k ≡ after 1 (bind m o k)
  spent m o k = bind-after (suc m) 1 o k ∙ ap (λ i. after 1 (bind i o k)) (one_less m)

  -- a function is entered
  pub opens_body : (x : ℕ) (body : Body I) (k : List (Pending I V S)) (c : Conf V S) (m : ℕ) (code : List I) → left acts (flows.Open x body) code k c (suc m) ≡ after 1 (left acts flows.Run body.code.now (InBody body.results ∷ k) (opened (open_calls k) (function_of (zeros_of (acts.callee x)) body) c) m)
  opens_body x body k c m code =
      let f : Function I V = function_of (zeros_of (acts.callee x)) body in
      spent m (enter (code_in acts f.body) acts.func f (open_calls k) m c) (resume acts k)
      ∙ ap (after 1) (bind-bind m (code_in acts f.body (open_calls k + 1) m (opened (open_calls k) f c)) (leave_body (λ g. acts.func g (open_calls k)) f.results) (resume acts k))

  -- a loop is passed through
  pub passes_loop : (p r : ℕ) (below : List V) (body rest code : List I) (k : List (Pending I V S)) (c : Conf V S) (m : ℕ) → left acts flows.Again code (InLoop p r below body rest ∷ k) c (suc m) ≡ after 1 (left acts flows.Run body (InLoop p r below body rest ∷ k) c m)
  passes_loop p r below body rest code k c m =
      ap (λ o. bind (suc m) o (λ y i. bind i (rest_in acts k rest y i) (resume acts k))) (cycle-pass p r below (code_in acts body) (open_calls k) (suc m) c)
      ∙ spent m (bind m (code_in acts body (open_calls k) m c) (leave_pass (cycle p r below (code_in acts body) (open_calls k)) p r below)) (λ y i. bind i (rest_in acts k rest y i) (resume acts k))
      ∙ ap (after 1) (bind-bind m (code_in acts body (open_calls k) m c) (leave_pass (cycle p r below (code_in acts body) (open_calls k)) p r below) (λ y i. bind i (rest_in acts k rest y i) (resume acts k)))

  pub halts_at_loop : (p r : ℕ) (below : List V) (body rest code : List I) (k : List (Pending I V S)) (c : Conf V S) → left acts flows.Again code (InLoop p r below body rest ∷ k) c 0 ≡ Halt c.world
  halts_at_loop p r below body rest code k c = refl
