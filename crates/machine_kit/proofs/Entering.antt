-- What is left of a run before a call, by what the index of the function names.
use Rattle.std.proofs.Common.{◌≡◌, ℕ, zero, suc, List, [], ◌∷◌, take, Option, Some, None, refl, sym, ap, ◌∙◌}
use Rattle.evaluation_kit.specs.declared.jump.Jump.{Jump}
use Rattle.evaluation_kit.specs.declared.jump.Jump.TheVariants.{Trap}
use Rattle.outcome_kit.specs.Outcome.{Out, bind, turn}
use Rattle.outcome_kit.specs.Code.{Leave}
use Rattle.outcome_kit.proofs.Outcomes.{bind-done}
use Rattle.evaluation_kit.specs.Configurations.{World, Conf, Plain, PlainRes, Res, settled, with_plain}
use Rattle.evaluation_kit.specs.Control.{Callee, Own, Host, enter, arrive}
use Rattle.machine_kit.specs.declared.frame.Flow.TheVariants as flows
use Rattle.machine_kit.specs.declared.head.Body.{Body}
use Rattle.machine_kit.specs.Acts.{Acts, Laws, code_in, ended_by, zeros_of}
use Rattle.machine_kit.specs.Heads.{function_of}
use Rattle.machine_kit.specs.Pending.{Pending, InCall, open_calls, resume}
use Rattle.machine_kit.specs.Machines.{left}

module _ {I V S : Type 0} (acts : Acts I V S) (laws : Laws acts) where
  -- a call by what the index names
  named : Option (Callee I V S) → List (Pending I V S) → Conf V S → ℕ → Out (World S) (Res V S)
  named callee k c n = bind n (arrive callee (λ f d m a. turn m a.world (λ i. enter (code_in acts f.body) acts.func f d i a)) (open_calls k) n c) (resume acts k)

  by_name : (x : ℕ) (callee : Option (Callee I V S)) (k : List (Pending I V S)) (c : Conf V S) (n : ℕ) (code : List I) → acts.callee x ≡ callee → left acts (flows.Enter x) code k c n ≡ named callee k c n
  unfolding named
  by_name x callee k c n code e =
      ap (λ o. bind n o (resume acts k)) (laws.enters x (open_calls k) n c)
      ∙ ap (λ o. bind n (arrive o (λ f d m a. turn m a.world (λ i. enter (code_in acts f.body) acts.func f d i a)) (open_calls k) n c) (resume acts k)) e

  pub missing : (x : ℕ) (k : List (Pending I V S)) (c : Conf V S) (n : ℕ) (code : List I) → acts.callee x ≡ None → left acts (flows.Enter x) code k c n ≡ left acts (flows.Close (Some Trap)) code k c n
  unfolding named
  missing x k c n code e = by_name x None k c n code e ∙ bind-done n (Leave Trap c) (resume acts k)

  pub hosted : (x p : ℕ) (act : Plain V S → PlainRes V S) (k : List (Pending I V S)) (c : Conf V S) (n : ℕ) (code : List I) (j : Option Jump) (b : Plain V S) → acts.callee x ≡ Some (Host p act) → act (record { operands = take p c.operands; locals = []; state = c.world.state }) ≡ ended_by j b → left acts (flows.Enter x) code k c n ≡ left acts (flows.Close j) code k (with_plain c.world b) n
  unfolding named
  hosted x p act k c n code j b e f =
      by_name x (Some (Host p act)) k c n code e
      ∙ bind-done n (settled c.world (act (record { operands = take p c.operands; locals = []; state = c.world.state }))) (resume acts k)
      ∙ ap (λ r. resume acts k (settled c.world r) n) f
      ∙ ap (λ r. resume acts k r n) (settled_by j)
    where
      settled_by : (j : Option Jump) → settled c.world (ended_by j b) ≡ ended_by j (with_plain c.world b)
      settled_by None = refl
      settled_by (Some i) = refl

  pub own : (x : ℕ) (body : Body I) (k : List (Pending I V S)) (c : Conf V S) (n : ℕ) (code : List I) → acts.callee x ≡ Some (Own (function_of (zeros_of (acts.callee x)) body)) → left acts (flows.Enter x) code k c n ≡ left acts (flows.Open x body) code k c n
  unfolding named
  own x body k c n code e = by_name x (Some (Own (function_of (zeros_of (acts.callee x)) body))) k c n code e

  -- the locals with which a call begins do not matter
  named_locals : (callee : Option (Callee I V S)) (k : List (Pending I V S)) (c : Conf V S) (n : ℕ) (locals others below : List V) (rest : List I) → named callee (InCall locals below rest ∷ k) c n ≡ named callee (InCall locals below rest ∷ k) (record c { locals = others }) n
  unfolding named
  named_locals None k c n locals others below rest =
      bind-done n (Leave Trap c) (resume acts (InCall locals below rest ∷ k))
      ∙ sym (bind-done n (Leave Trap (record c { locals = others })) (resume acts (InCall locals below rest ∷ k)))
  named_locals (Some (Own f)) k c zero locals others below rest = refl
  named_locals (Some (Own f)) k c (suc n) locals others below rest = refl
  named_locals (Some (Host p act)) k c n locals others below rest = refl

  pub other_locals : (x : ℕ) (k : List (Pending I V S)) (c : Conf V S) (n : ℕ) (locals others below : List V) (code rest : List I) → left acts (flows.Enter x) code (InCall locals below rest ∷ k) c n ≡ left acts (flows.Enter x) code (InCall locals below rest ∷ k) (record c { locals = others }) n
  other_locals x k c n locals others below code rest =
      by_name x (acts.callee x) (InCall locals below rest ∷ k) c n code refl
      ∙ named_locals (acts.callee x) k c n locals others below rest
      ∙ sym (by_name x (acts.callee x) (InCall locals below rest ∷ k) (record c { locals = others }) n code refl)
