-- No function is left by a tail call, where none of the host's is; and runs that meet, with what is known of the end of the
-- input's.
use Rattle.std.proofs.Common.{ℕ, zero, suc, ◌+◌, ◌-◌, Bool, inl, inr, Option, Some, None}
use Rattle.evaluation_kit.specs.declared.jump.Jump.{Jump}
use Rattle.evaluation_kit.specs.declared.jump.Jump.TheVariants.{Branch, Return, TailCall}
use Rattle.outcome_kit.specs.Outcome.{Out, Done, Halt, after, bind, turn}
use Rattle.outcome_kit.specs.Code.{Go, Leave}
use Rattle.evaluation_kit.specs.Configurations.{World, Conf, Plain, PlainRes, Res, Sem, settled}
use Rattle.evaluation_kit.specs.Control.{Function, Callee, Own, Host, leave_body, enter, arrive}
use Rattle.evaluation_kit.specs.Languages.{Language, code_with, func_within, func}
use Rattle.simulation_kit.specs.Runs.{Post, Meets, Runs}

-- what holds of the result of a run, if it comes to one
abbrev pub IfDone : {H R : Type 0} → (R → Type 0) → Out H R → Type 0
IfDone Fact (Done u r) = Fact r
IfDone Fact (Halt h) = Unit {0}

module _ {H S : Type 0} (Fact : S → Type 0) where
  after_if : (u : ℕ) (o : Out H S) → IfDone Fact o → IfDone Fact (after u o)
  after_if u (Done v r) h = h
  after_if u (Halt w) h = h

  bind_if : {R : Type 0} (n : ℕ) (o : Out H R) (next : R → ℕ → Out H S) → ((r : R) (m : ℕ) → IfDone Fact (next r m)) → IfDone Fact (bind n o next)
  bind_if n (Done u r) next h = after_if u (next r (n - u)) (h r (n - u))
  bind_if n (Halt w) next h = tt

-- the end of a function that is no tail call
abbrev pub NoTailJump : Jump → Type 0
NoTailJump (TailCall f) = ⊥
NoTailJump _ = Unit {0}

module _ {V S : Type 0} where
  abbrev pub NoTail : Res V S → Type 0
  NoTail (Leave j c) = NoTailJump j
  NoTail (Go c) = Unit {0}

  abbrev pub NoTailPlain : PlainRes V S → Type 0
  NoTailPlain (Leave j p) = NoTailJump j
  NoTailPlain (Go p) = Unit {0}

  settled_tail : (w : World S) (r : PlainRes V S) → NoTailPlain r → NoTail (settled w r)
  settled_tail w (Go p) h = tt
  settled_tail w (Leave j p) h = h

  -- what becomes of the end of a body
  body_tail : (tail : ℕ → ℕ → Conf V S → Out (World S) (Res V S)) (r : ℕ) → ((g n : ℕ) (c : Conf V S) → IfDone NoTail (tail g n c)) → (x : Res V S) (n : ℕ) → IfDone NoTail (leave_body tail r x n)
  body_tail tail r h (Go c) n = tt
  body_tail tail r h (Leave (TailCall g) c) n = h g n c
  body_tail tail r h (Leave (Branch k) c) n = tt
  body_tail tail r h (Leave Return c) n = tt
  body_tail tail r h (Leave j c) n = tt

  turn_tail : (n : ℕ) (w : World S) (body : ℕ → Out (World S) (Res V S)) → ((m : ℕ) → IfDone NoTail (body m)) → IfDone NoTail (turn n w body)
  turn_tail zero w body h = tt
  turn_tail (suc n) w body h = after_if NoTail 1 (body n) (h n)

module _ {I : Type 0} {F : Type 0 → Type 0} {V S : Type 0} (L : Language I F V S) where
  abbrev pub HostTail : Option (Callee I V S) → Type 0
  HostTail (Some (Host p act)) = (q : Plain V S) → NoTailPlain (act q)
  HostTail _ = Unit {0}

  arrive_tail : (o : Option (Callee I V S)) (own : Function I V → Sem V S) → HostTail o → ((f : Function I V) (d n : ℕ) (c : Conf V S) → IfDone NoTail (own f d n c)) → (d n : ℕ) (c : Conf V S) → IfDone NoTail (arrive o own d n c)
  arrive_tail None own h k d n c = tt
  arrive_tail (Some (Own f)) own h k d n c = k f d n c
  arrive_tail (Some (Host p act)) own h k d n c = settled_tail c.world (act _) (h _)

  module _ (hosts : (x : ℕ) → HostTail (L.callee x)) where
    within_tail : (k x d n : ℕ) (c : Conf V S) → IfDone NoTail (func_within L k x d n c)
    within_tail zero x d n c = arrive_tail (L.callee x) (λ f d n c. Halt c.world) (hosts x) (λ f d n c. tt) d n c
    within_tail (suc k) x d n c =
        arrive_tail (L.callee x) (λ f d n c. turn n c.world (λ m. enter (code_with L (func_within L k) f.body) (func_within L k) f d m c)) (hosts x)
        (λ f d n c. turn_tail n c.world (λ m. enter (code_with L (func_within L k) f.body) (func_within L k) f d m c)
        (λ m. bind_if NoTail m (code_with L (func_within L k) f.body (d + 1) m _) (leave_body (λ g. func_within L k g d) f.results) (body_tail (λ g. func_within L k g d) f.results (λ g i e. within_tail k g d i e)))) d n c

    pub func_tail : (x d n : ℕ) (c : Conf V S) → IfDone NoTail (func L x d n c)
    unfolding func
    func_tail x d n c = within_tail n x d n c

-- results that match, with a fact of that of the input
abbrev pub knowing : {R R' : Type 0} → (R → Type 0) → Post R R' → Post R R'
knowing Fact Q = record { Matches = λ r r'. Q.Matches r r' × Fact r; Free = Q.Free }

module _ {H H' R R' : Type 0} (exact : Bool) (Ends : H → H' → Type 0) (Q : Post R R') (Fact : R → Type 0) where
  meets_knowing : (n : ℕ) (o : Out H R) (t : ℕ → Out H' R') → IfDone Fact o → Meets exact Ends Q n o t → Meets exact Ends (knowing Fact Q) n o t
  meets_knowing n (Done u r) t h (inl f) = inl f
  meets_knowing n (Done u r) t h (inr c) = inr (record { cost = c.cost; spends = c.spends; within = c.within; result = c.result; matches = (c.matches, h); does = c.does })
  meets_knowing n (Halt w) t h s = record { turns = s.turns; spends = s.spends; place = s.place; matches = s.matches; does = s.does }

  pub runs_knowing : (n : ℕ) (o : Out H R) (t : ℕ → Out H' R') → IfDone Fact o → Runs exact Ends Q n o t → Runs exact Ends (knowing Fact Q) n o t
  runs_knowing n o t h r = record { by = meets_knowing n o t h r.by }
