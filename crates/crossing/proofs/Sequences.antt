-- Outcomes that are alike, code in order, and plain instructions.
use Rattle.std.proofs.Common.{◌≡◌, ℕ, zero, suc, ◌+◌, ◌-◌, Bool, true, false, List, [], ◌∷◌, ◌++◌, refl, sym, ap, subst}
use Rattle.evaluation_kit.specs.declared.jump.Jump.{Jump}
use Rattle.evaluation_kit.specs.declared.jump.Jump.TheVariants.{Branch, Return, Throw, TailCall, Trap, NoReply, Full, Stuck}
use Rattle.outcome_kit.specs.Outcome.{Out, Done, Halt, after, bind, turn}
use Rattle.outcome_kit.specs.Code.{Go, Leave, go_on, run}
use Rattle.outcome_kit.proofs.Outcomes.{run-append}
use Rattle.evaluation_kit.specs.Configurations.{World, Conf, Plain, PlainRes, Res, Sem, plain_of, settled}
use Rattle.evaluation_kit.specs.Control.{leaf, where_ready, when_ready}
use Rattle.simulation_kit.specs.Likenesses.{Likeness, JumpLike, ResultLike, LeafLike}
use Rattle.simulation_kit.proofs.Sequences.{run-one}
use Rattle.crossing.specs.InStep.{ConfLike, WorldLike, OutLike, EndsLike, CodeInStep}

module _ {V S V' S' : Type 0} (K : Likeness V S V' S') where
  -- outcomes
  after_like : {R R' : Type 0} (Q : R → R' → Type 0) (used : ℕ) (o : Out (World S) R) (o' : Out (World S') R') → OutLike K Q o o' → OutLike K Q (after used o) (after used o')
  after_like Q used (Done u r) (Done u' r') h = (ap (λ (i : ℕ). used + i) h.0, h.1)
  after_like Q used (Halt w) (Halt w') h = h
  after_like Q used (Done u r) (Halt w') h = absurd h
  after_like Q used (Halt w) (Done u' r') h = absurd h

  pub bind_like : {R R' T T' : Type 0} (Q : R → R' → Type 0) (P : T → T' → Type 0) (n : ℕ) (o : Out (World S) R) (o' : Out (World S') R') (k : R → ℕ → Out (World S) T) (k' : R' → ℕ → Out (World S') T') → OutLike K Q o o' → ((r : R) (r' : R') (m : ℕ) → Q r r' → OutLike K P (k r m) (k' r' m)) → OutLike K P (bind n o k) (bind n o' k')
  bind_like Q P n (Done u r) (Done u' r') k k' h next =
      subst (λ (i : ℕ). OutLike K P (after u (k r (n - u))) (after i (k' r' (n - i)))) (sym h.0)
      (after_like P u (k r (n - u)) (k' r' (n - u)) (next r r' (n - u) h.1))
  bind_like Q P n (Halt w) (Halt w') k k' h next = h
  bind_like Q P n (Done u r) (Halt w') k k' h next = absurd h
  bind_like Q P n (Halt w) (Done u' r') k k' h next = absurd h

  pub turn_like : {R R' : Type 0} (Q : R → R' → Type 0) (n : ℕ) (w : World S) (w' : World S') (f : ℕ → Out (World S) R) (f' : ℕ → Out (World S') R') → WorldLike K w w' → ((m : ℕ) → OutLike K Q (f m) (f' m)) → OutLike K Q (turn n w f) (turn n w' f')
  turn_like Q zero w w' f f' h next = h
  turn_like Q (suc n) w w' f f' h next = after_like Q 1 (f n) (f' n) (next n)

  -- where a run is halted inside code
  pub halted : (c : Conf V S) (c' : Conf V' S') → ConfLike K c c' → WorldLike K c.world c'.world
  halted c c' h = record { state = K.states_end c.world.state c'.world.state h.plain.state; deepest = h.deepest }

  -- what stands for a jump
  abbrev pub moved : Jump → Jump
  moved (TailCall f) = TailCall (K.index f)
  moved j = j

  is_moved : (j j' : Jump) → JumpLike K j j' → j' ≡ moved j
  is_moved (TailCall f) j' e = e.1
  is_moved (Branch k) j' e = e
  is_moved Return j' e = e
  is_moved (Throw x) j' e = e
  is_moved Trap j' e = e
  is_moved (NoReply x) j' e = e
  is_moved Full j' e = e
  is_moved Stuck j' e = e

  pub by_jump : (P : Jump → Type 0) (j j' : Jump) → JumpLike K j j' → (JumpLike K j (moved j) → P (moved j)) → P j'
  by_jump P j j' h f = subst P (sym (is_moved j j' h)) (f (subst (JumpLike K j) (is_moved j j' h) h))

  -- code in order
  goes_on : (d : ℕ) (a : Sem V S) (b : Sem V' S') → CodeInStep K a b → (r : Res V S) (r' : Res V' S') (m : ℕ) → EndsLike K r r' → OutLike K (EndsLike K) (go_on (a d) r m) (go_on (b d) r' m)
  goes_on d a b h (Go c) (Go c') m e = h.by d m c c' e
  goes_on d a b h (Leave j c) (Leave j' c') m e = (refl, e)
  goes_on d a b h (Go c) (Leave j' c') m e = absurd e
  goes_on d a b h (Leave j c) (Go c') m e = absurd e

  pub nothing : CodeInStep K (run []) (run [])
  nothing = record { by = λ d n c c' h. (refl, h) }

  pub one : (a : Sem V S) (b : Sem V' S') → CodeInStep K a b → CodeInStep K a (run (b ∷ []))
  one a b h = record { by = λ d n c c' e. subst (OutLike K (EndsLike K) (a d n c)) (sym (run-one b d n c')) (h.by d n c c' e) }

  pub several : (a : Sem V S) (bs : List (Sem V' S')) (more : List (Sem V S)) (others : List (Sem V' S')) → CodeInStep K a (run bs) → CodeInStep K (run more) (run others) → CodeInStep K (run (a ∷ more)) (run (bs ++ others))
  several a bs more others first rest = record {
    by = λ d n c c' e.
        subst (OutLike K (EndsLike K) (run (a ∷ more) d n c)) (sym (run-append bs others d n c'))
        (bind_like (EndsLike K) (EndsLike K) n (a d n c) (run bs d n c') (go_on (run more d)) (go_on (run others d)) (first.by d n c c' e)
        (λ r r' m g. goes_on d (run more) (run others) rest r r' m g));
  }

  -- a plain instruction
  pub settled_like : (w : World S) (w' : World S') → w'.deepest ≡ w.deepest → (r : PlainRes V S) (r' : PlainRes V' S') → ResultLike K r r' → EndsLike K (settled w r) (settled w' r')
  settled_like w w' e (Go p) (Go p') h = record { plain = h; deepest = e }
  settled_like w w' e (Leave j p) (Leave j' p') h = (h.0, record { plain = h.1; deepest = e })
  settled_like w w' e (Go p) (Leave j' p') h = absurd h
  settled_like w w' e (Leave j p) (Go p') h = absurd h

  pub leaf_in_step : (act : Plain V S → PlainRes V S) (act' : Plain V' S' → PlainRes V' S') → LeafLike K act act' → CodeInStep K (leaf act) (leaf act')
  leaf_in_step act act' h = record {
    by = λ d n c c' e. (refl, settled_like c.world c'.world e.deepest (act (plain_of c)) (act' (plain_of c')) (h.acts (plain_of c) (plain_of c') e.plain));
  }

  -- an instruction that both run, or none
  where_like : (is : Bool) (a : Sem V S) (b : Sem V' S') → CodeInStep K a b → CodeInStep K (where_ready is a) (where_ready is b)
  where_like true a b h = record { by = λ d n c c' e. h.by d n c c' e }
  where_like false a b h = record { by = λ d n c c' e. (refl, (refl, e)) }

  pub ready_in_step : (ready : Plain V S → Bool) (ready' : Plain V' S' → Bool) (a : Sem V S) (b : Sem V' S') → ((q : Plain V S) (q' : Plain V' S') → ready' q' ≡ ready q) → CodeInStep K a b → CodeInStep K (when_ready ready a) (when_ready ready' b)
  ready_in_step ready ready' a b same h = record {
    by = λ d n c c' e.
        subst (λ (is : Bool). OutLike K (EndsLike K) (when_ready ready a d n c) (where_ready is b d n c')) (sym (same (plain_of c) (plain_of c')))
        ((where_like (ready (plain_of c)) a b h).by d n c c' e);
  }
