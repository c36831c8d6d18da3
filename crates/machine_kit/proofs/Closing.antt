-- What is left of a run at the end of the code inside a form, or at a jump out of it, by the form.
use Rattle.std.proofs.Common.{◌≡◌, ℕ, zero, List, ◌∷◌, ◌++◌, take, Option, Some, None, refl, ap, ◌∙◌}
use Rattle.evaluation_kit.specs.declared.jump.Jump.{Jump}
use Rattle.evaluation_kit.specs.declared.jump.Jump.TheVariants.{Branch, TailCall}
use Rattle.outcome_kit.specs.Outcome.{Done, bind}
use Rattle.outcome_kit.specs.Code.{Go, Leave}
use Rattle.outcome_kit.proofs.Outcomes.{bind-done}
use Rattle.evaluation_kit.specs.Configurations.{Conf}
use Rattle.evaluation_kit.specs.Control.{Handler, entered, kept, leave_block, leave_pass, cycle, handled, leave_body, ended}
use Rattle.machine_kit.specs.declared.frame.Flow.TheVariants as flows
use Rattle.machine_kit.specs.Acts.{Acts, code_in, ended_by}
use Rattle.machine_kit.specs.Pending.{Pending, InBlock, InLoop, InGuard, InBody, InCall, open_calls, rest_in, resume}
use Rattle.machine_kit.specs.Machines.{left}

module _ {I V S : Type 0} (acts : Acts I V S) where
  -- a jump past the rest
  passes : (j : Jump) (c : Conf V S) (rest : List I) (k : List (Pending I V S)) (n : ℕ) → bind n (rest_in acts k rest (Leave j c) n) (resume acts k) ≡ resume acts k (Leave j c) n
  passes j c rest k n = bind-done n (Leave j c) (resume acts k)

  -- the end of a block, a jump to its label, and a jump past it
  pub block_done : (k : List (Pending I V S)) (c : Conf V S) (n r : ℕ) (below : List V) (code rest : List I) (j : Option Jump) → leave_block r below (ended_by j c) ≡ Go (kept r below c) → left acts (flows.Close j) code (InBlock r below rest ∷ k) c n ≡ left acts flows.Run rest k (kept r below c) n
  block_done k c n r below code rest j e = ap (λ x. bind n (rest_in acts k rest x n) (resume acts k)) e

  pub block_left : (k : List (Pending I V S)) (c : Conf V S) (n r : ℕ) (below : List V) (code rest : List I) (j i : Jump) → leave_block r below (Leave j c) ≡ Leave i c → left acts (flows.Close (Some j)) code (InBlock r below rest ∷ k) c n ≡ left acts (flows.Close (Some i)) code k c n
  block_left k c n r below code rest j i e =
      ap (λ x. bind n (rest_in acts k rest x n) (resume acts k)) e
      ∙ passes i c rest k n

  -- the end of a loop, a jump to its label, and a jump past it
  pub loop_done : (k : List (Pending I V S)) (c : Conf V S) (n p r : ℕ) (below : List V) (code body rest : List I) → left acts (flows.Close None) code (InLoop p r below body rest ∷ k) c n ≡ left acts flows.Run rest k (kept r below c) n
  loop_done k c n p r below code body rest = bind-done n (Go (kept r below c)) (λ y m. bind m (rest_in acts k rest y m) (resume acts k))

  pub loop_again : (k : List (Pending I V S)) (c : Conf V S) (n p r : ℕ) (below : List V) (code body rest : List I) → left acts (flows.Close (Some (Branch zero))) code (InLoop p r below body rest ∷ k) c n ≡ left acts flows.Again code (InLoop p r below body rest ∷ k) (entered p c) n
  loop_again k c n p r below code body rest = refl

  pub loop_left : (k : List (Pending I V S)) (c : Conf V S) (n p r : ℕ) (below : List V) (code body rest : List I) (j i : Jump) → leave_pass (cycle p r below (code_in acts body) (open_calls k)) p r below (Leave j c) n ≡ Done 0 (Leave i c) → left acts (flows.Close (Some j)) code (InLoop p r below body rest ∷ k) c n ≡ left acts (flows.Close (Some i)) code k c n
  loop_left k c n p r below code body rest j i e =
      ap (λ o. bind n o (λ y m. bind m (rest_in acts k rest y m) (resume acts k))) e
      ∙ bind-done n (Leave i c) (λ y m. bind m (rest_in acts k rest y m) (resume acts k))
      ∙ passes i c rest k n

  -- the end of code with a handler, a jump to its label, a jump past it, and an exception that it takes
  pub guard_done : (k : List (Pending I V S)) (c : Conf V S) (n r : ℕ) (h : Handler V S) (below : List V) (code rest : List I) (j : Option Jump) → handled h (leave_block r below (ended_by j c)) ≡ Go (kept r below c) → left acts (flows.Close j) code (InGuard r h below rest ∷ k) c n ≡ left acts flows.Run rest k (kept r below c) n
  guard_done k c n r h below code rest j e = ap (λ x. bind n (rest_in acts k rest x n) (resume acts k)) e

  pub guard_left : (k : List (Pending I V S)) (c a : Conf V S) (n r : ℕ) (h : Handler V S) (below : List V) (code rest : List I) (j i : Jump) → handled h (leave_block r below (Leave j c)) ≡ Leave i a → left acts (flows.Close (Some j)) code (InGuard r h below rest ∷ k) c n ≡ left acts (flows.Close (Some i)) code k a n
  guard_left k c a n r h below code rest j i e =
      ap (λ x. bind n (rest_in acts k rest x n) (resume acts k)) e
      ∙ passes i a rest k n

  -- the end of a body, a tail call, and what leaves it
  pub body_done : (k : List (Pending I V S)) (c : Conf V S) (n r : ℕ) (code : List I) (j : Option Jump) → leave_body (λ g. acts.func g (open_calls k)) r (ended_by j c) n ≡ Done 0 (ended r c) → left acts (flows.Close j) code (InBody r ∷ k) c n ≡ left acts (flows.Close None) code k (record c { operands = take r c.operands }) n
  body_done k c n r code j e = ap (λ o. bind n o (resume acts k)) e ∙ bind-done n (ended r c) (resume acts k)

  pub body_tail : (k : List (Pending I V S)) (c : Conf V S) (n r g : ℕ) (code : List I) → left acts (flows.Close (Some (TailCall g))) code (InBody r ∷ k) c n ≡ left acts (flows.Enter g) code k c n
  body_tail k c n r g code = refl

  pub body_left : (k : List (Pending I V S)) (c : Conf V S) (n r : ℕ) (code : List I) (j : Jump) → leave_body (λ g. acts.func g (open_calls k)) r (Leave j c) n ≡ Done 0 (Leave j c) → left acts (flows.Close (Some j)) code (InBody r ∷ k) c n ≡ left acts (flows.Close (Some j)) code k c n
  body_left k c n r code j e = ap (λ o. bind n o (resume acts k)) e ∙ bind-done n (Leave j c) (resume acts k)

  -- the end of a call, and a jump out of it
  pub call_done : (k : List (Pending I V S)) (c : Conf V S) (n : ℕ) (locals below : List V) (code rest : List I) → left acts (flows.Close None) code (InCall locals below rest ∷ k) c n ≡ left acts flows.Run rest k (record c { operands = c.operands ++ below; locals = locals }) n
  call_done k c n locals below code rest = refl

  pub call_left : (k : List (Pending I V S)) (c : Conf V S) (n : ℕ) (locals below : List V) (code rest : List I) (j : Jump) → left acts (flows.Close (Some j)) code (InCall locals below rest ∷ k) c n ≡ left acts (flows.Close (Some j)) code k (record c { locals = locals }) n
  call_left k c n locals below code rest j = passes j (record c { locals = locals }) rest k n
