-- What is left of a run before an instruction, by its form.
use Rattle.std.proofs.Common.{◌≡◌, ℕ, List, [], ◌∷◌, drop, Bool, true, false, cond, Option, Some, None, ap, ◌∙◌}
use Rattle.evaluation_kit.specs.declared.jump.Jump.{Jump}
use Rattle.evaluation_kit.specs.declared.jump.Jump.TheVariants.{Trap}
use Rattle.outcome_kit.specs.Outcome.{Out, Done, bind}
use Rattle.outcome_kit.specs.Code.{Go, Leave}
use Rattle.outcome_kit.proofs.Outcomes.{bind-done, bind-bind, bind-same}
use Rattle.evaluation_kit.specs.Configurations.{World, Conf, Plain, PlainRes, Res, plain_of, settled, with_plain}
use Rattle.evaluation_kit.specs.Control.{Handler, call_picked, entered, popped, leave_block, handled, returned}
use Rattle.evaluation_kit.specs.Forms.{Form, Flat, Enclose, Repeat, Choose, Guard, Invoke, InvokeBy, map_form, eval}
use Rattle.machine_kit.specs.declared.frame.Flow.TheVariants as flows
use Rattle.machine_kit.specs.Acts.{Acts, Laws, code_in}
use Rattle.machine_kit.specs.Pending.{Pending, InBlock, InLoop, InGuard, InCall, open_calls, rest_in, resume}
use Rattle.machine_kit.specs.Machines.{left}

module _ {I V S : Type 0} (acts : Acts I V S) (laws : Laws acts) where
  -- what follows an instruction
  abbrev pub behind : List I → List (Pending I V S) → Res V S → ℕ → Out (World S) (Res V S)
  behind rest k x m = bind m (rest_in acts k rest x m) (resume acts k)

  pub code_ends : (k : List (Pending I V S)) (c : Conf V S) (n : ℕ) → left acts flows.Run [] k c n ≡ left acts (flows.Close None) [] k c n
  code_ends k c n = bind-done n (Go c) (resume acts k)

  -- an instruction by its form, and then what follows it
  instr_first : (i : I) (rest : List I) (k : List (Pending I V S)) (c : Conf V S) (n : ℕ) (form : Form V S I) → acts.form i ≡ form → left acts flows.Run (i ∷ rest) k c n ≡ bind n (eval acts.func (map_form acts.exec form) (open_calls k) n c) (behind rest k)
  instr_first i rest k c n form e =
      bind-bind n (acts.exec i (open_calls k) n c) (rest_in acts k rest) (resume acts k)
      ∙ ap (λ o. bind n o (behind rest k)) (laws.execs i (open_calls k) n c ∙ ap (λ f. eval acts.func (map_form acts.exec f) (open_calls k) n c) e)

  -- a result that is there at once
  at_once : (x : Res V S) (rest : List I) (k : List (Pending I V S)) (n : ℕ) → bind n (Done 0 x) (behind rest k) ≡ behind rest k x n
  at_once x rest k n = bind-done n x (behind rest k)

  -- a run whose result is changed
  changed : (o : Out (World S) (Res V S)) (f : Res V S → Res V S) (rest : List I) (k : List (Pending I V S)) (n : ℕ) → bind n (bind n o (λ x m. Done 0 (f x))) (behind rest k) ≡ bind n o (λ x m. behind rest k (f x) m)
  changed o f rest k n =
      bind-bind n o (λ x m. Done 0 (f x)) (behind rest k)
      ∙ bind-same n o (λ x m. bind m (Done 0 (f x)) (behind rest k)) (λ x m. behind rest k (f x) m) (λ x m. at_once (f x) rest k m)

  jumps : (j : Jump) (c : Conf V S) (rest : List I) (k : List (Pending I V S)) (n : ℕ) → behind rest k (Leave j c) n ≡ resume acts k (Leave j c) n
  jumps j c rest k n = bind-done n (Leave j c) (resume acts k)

  -- a plain instruction that goes on, and one that jumps
  pub flat_goes : (i : I) (rest : List I) (k : List (Pending I V S)) (c : Conf V S) (n : ℕ) (act : Plain V S → PlainRes V S) (p : Plain V S) → acts.form i ≡ Flat act → act (plain_of c) ≡ Go p → left acts flows.Run (i ∷ rest) k c n ≡ left acts flows.Run rest k (with_plain c.world p) n
  flat_goes i rest k c n act p e f =
      instr_first i rest k c n (Flat act) e
      ∙ at_once (settled c.world (act (plain_of c))) rest k n
      ∙ ap (λ x. behind rest k (settled c.world x) n) f

  pub flat_jumps : (i : I) (rest : List I) (k : List (Pending I V S)) (c : Conf V S) (n : ℕ) (act : Plain V S → PlainRes V S) (j : Jump) (p : Plain V S) → acts.form i ≡ Flat act → act (plain_of c) ≡ Leave j p → left acts flows.Run (i ∷ rest) k c n ≡ left acts (flows.Close (Some j)) rest k (with_plain c.world p) n
  flat_jumps i rest k c n act j p e f =
      instr_first i rest k c n (Flat act) e
      ∙ at_once (settled c.world (act (plain_of c))) rest k n
      ∙ ap (λ x. behind rest k (settled c.world x) n) f
      ∙ jumps j (with_plain c.world p) rest k n

  pub enclosed : (i : I) (rest : List I) (k : List (Pending I V S)) (c : Conf V S) (n p r : ℕ) (body : List I) → acts.form i ≡ Enclose p r body → left acts flows.Run (i ∷ rest) k c n ≡ left acts flows.Run body (InBlock r (drop p c.operands) rest ∷ k) (entered p c) n
  enclosed i rest k c n p r body e =
      instr_first i rest k c n (Enclose p r body) e
      ∙ changed (code_in acts body (open_calls k) n (entered p c)) (leave_block r (drop p c.operands)) rest k n

  pub repeated : (i : I) (rest : List I) (k : List (Pending I V S)) (c : Conf V S) (n p r : ℕ) (body : List I) → acts.form i ≡ Repeat p r body → left acts flows.Run (i ∷ rest) k c n ≡ left acts flows.Again rest (InLoop p r (drop p c.operands) body rest ∷ k) (entered p c) n
  repeated i rest k c n p r body e = instr_first i rest k c n (Repeat p r body) e

  pub chosen : (i : I) (rest : List I) (k : List (Pending I V S)) (c : Conf V S) (n p r : ℕ) (test : List V → Bool) (first second : List I) (b : Bool) → acts.form i ≡ Choose test p r first second → test c.operands ≡ b → left acts flows.Run (i ∷ rest) k c n ≡ left acts flows.Run (cond b first second) (InBlock r (drop p (drop 1 c.operands)) rest ∷ k) (entered p (popped c)) n
  chosen i rest k c n p r test first second true e f =
      instr_first i rest k c n (Choose test p r first second) e
      ∙ ap (λ b. bind n (bind n ((cond b (code_in acts first) (code_in acts second)) (open_calls k) n (entered p (popped c))) (λ x m. Done 0 (leave_block r (drop p (drop 1 c.operands)) x))) (behind rest k)) f
      ∙ changed (code_in acts first (open_calls k) n (entered p (popped c))) (leave_block r (drop p (drop 1 c.operands))) rest k n
  chosen i rest k c n p r test first second false e f =
      instr_first i rest k c n (Choose test p r first second) e
      ∙ ap (λ b. bind n (bind n ((cond b (code_in acts first) (code_in acts second)) (open_calls k) n (entered p (popped c))) (λ x m. Done 0 (leave_block r (drop p (drop 1 c.operands)) x))) (behind rest k)) f
      ∙ changed (code_in acts second (open_calls k) n (entered p (popped c))) (leave_block r (drop p (drop 1 c.operands))) rest k n

  pub guarded : (i : I) (rest : List I) (k : List (Pending I V S)) (c : Conf V S) (n p r : ℕ) (h : Handler V S) (body : List I) → acts.form i ≡ Guard p r h body → left acts flows.Run (i ∷ rest) k c n ≡ left acts flows.Run body (InGuard r h (drop p c.operands) rest ∷ k) (entered p c) n
  guarded i rest k c n p r h body e =
      instr_first i rest k c n (Guard p r h body) e
      ∙ changed (code_in acts body (open_calls k) n (entered p c)) (λ x. handled h (leave_block r (drop p c.operands) x)) rest k n

  pub called : (i : I) (rest : List I) (k : List (Pending I V S)) (c : Conf V S) (n p x : ℕ) → acts.form i ≡ Invoke p x → left acts flows.Run (i ∷ rest) k c n ≡ left acts (flows.Enter x) rest (InCall c.locals (drop p c.operands) rest ∷ k) (entered p c) n
  called i rest k c n p x e =
      instr_first i rest k c n (Invoke p x) e
      ∙ changed (acts.func x (open_calls k) n (entered p c)) (returned c.locals (drop p c.operands)) rest k n

  pub none_picked : (i : I) (rest : List I) (k : List (Pending I V S)) (c : Conf V S) (n p : ℕ) (pick : Plain V S → Option ℕ) → acts.form i ≡ InvokeBy p pick → pick (plain_of c) ≡ None → left acts flows.Run (i ∷ rest) k c n ≡ left acts (flows.Close (Some Trap)) rest k (popped c) n
  none_picked i rest k c n p pick e f =
      instr_first i rest k c n (InvokeBy p pick) e
      ∙ ap (λ o. bind n (call_picked p acts.func o (open_calls k) n (popped c)) (behind rest k)) f
      ∙ at_once (Leave Trap (popped c)) rest k n
      ∙ jumps Trap (popped c) rest k n

  pub picked : (i : I) (rest : List I) (k : List (Pending I V S)) (c : Conf V S) (n p x : ℕ) (pick : Plain V S → Option ℕ) → acts.form i ≡ InvokeBy p pick → pick (plain_of c) ≡ Some x → left acts flows.Run (i ∷ rest) k c n ≡ left acts (flows.Enter x) rest (InCall c.locals (drop p (drop 1 c.operands)) rest ∷ k) (entered p (popped c)) n
  picked i rest k c n p x pick e f =
      instr_first i rest k c n (InvokeBy p pick) e
      ∙ ap (λ o. bind n (call_picked p acts.func o (open_calls k) n (popped c)) (behind rest k)) f
      ∙ changed (acts.func x (open_calls k) n (entered p (popped c))) (returned c.locals (drop p (drop 1 c.operands))) rest k n
