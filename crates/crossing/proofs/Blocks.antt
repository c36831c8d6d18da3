-- Blocks, loops, choices and handlers.
use Rattle.std.proofs.Common.{◌≡◌, ℕ, zero, suc, Bool, true, false, List, take, drop, Option, Some, None, refl, sym, ap, ◌∙◌, subst, if◌then◌else◌}
use Rattle.evaluation_kit.specs.declared.jump.Jump.{Jump}
use Rattle.evaluation_kit.specs.declared.jump.Jump.TheVariants.{Branch, Throw}
use Rattle.outcome_kit.specs.Outcome.{Out, Done, bind}
use Rattle.outcome_kit.specs.Code.{Go, Leave}
use Rattle.evaluation_kit.specs.Configurations.{World, Conf, Res, Sem, plain_of}
use Rattle.evaluation_kit.specs.Control.{Caught, Handler, entered, kept, popped, leave_block, block, leave_pass, passes, loop, choose, taken, handled, guard}
use Rattle.simulation_kit.specs.Likenesses.{Likeness, JumpLike, CaughtLike, HandlerLike}
use Rattle.simulation_kit.proofs.Liking as liking
use Rattle.crossing.specs.InStep.{ConfLike, OutLike, EndsLike, CodeInStep}
use Rattle.crossing.proofs.Sequences.{bind_like, turn_like, halted, moved, by_jump}

module _ {V S V' S' : Type 0} (K : Likeness V S V' S') where
  -- operands that are set aside
  pub record AsideLike (below : List V) (below' : List V') : Type 0 where
    pub operands : below' ≡ K.values below
    pub sound : K.keeps.Sound below

  pub aside_like : (p : ℕ) (c : Conf V S) (c' : Conf V' S') → ConfLike K c c' → AsideLike (drop p c.operands) (drop p c'.operands)
  aside_like p c c' h = record {
    operands = ap (drop p) h.plain.operands ∙ K.drop_values p c.operands;
    sound = K.keeps.drops p c.operands h.plain.sound_operands;
  }

  pub entered_like : (p : ℕ) (c : Conf V S) (c' : Conf V' S') → ConfLike K c c' → ConfLike K (entered p c) (entered p c')
  entered_like p c c' h = record {
    plain = record {
      operands = liking.takes K p p c.operands c'.operands refl h.plain.operands;
      locals = h.plain.locals;
      state = h.plain.state;
      sound_operands = K.keeps.takes p c.operands h.plain.sound_operands;
      sound_locals = h.plain.sound_locals;
      safe = h.plain.safe;
    };
    deepest = h.deepest;
  }

  kept_like : (r : ℕ) (below : List V) (below' : List V') → AsideLike below below' → (c : Conf V S) (c' : Conf V' S') → ConfLike K c c' → ConfLike K (kept r below c) (kept r below' c')
  kept_like r below below' a c c' h = record {
    plain = record {
      operands = liking.appends K (take r c.operands) below (take r c'.operands) below' (liking.takes K r r c.operands c'.operands refl h.plain.operands) a.operands;
      locals = h.plain.locals;
      state = h.plain.state;
      sound_operands = K.keeps.appends (take r c.operands) below (K.keeps.takes r c.operands h.plain.sound_operands) a.sound;
      sound_locals = h.plain.sound_locals;
      safe = h.plain.safe;
    };
    deepest = h.deepest;
  }

  pub popped_like : (c : Conf V S) (c' : Conf V' S') → ConfLike K c c' → ConfLike K (popped c) (popped c')
  popped_like c c' h = record { plain = liking.popped K (plain_of c) (plain_of c') h.plain; deepest = h.deepest }

  -- the end of a block
  jumps_out : (r : ℕ) (below : List V) (below' : List V') → AsideLike below below' → (j : Jump) → JumpLike K j (moved K j) → (c : Conf V S) (c' : Conf V' S') → ConfLike K c c' → EndsLike K (leave_block r below (Leave j c)) (leave_block r below' (Leave (moved K j) c'))
  jumps_out r below below' a (Branch zero) e c c' h = kept_like r below below' a c c' h
  jumps_out r below below' a (Branch (suc k)) e c c' h = (refl, h)
  jumps_out r below below' a j e c c' h = (e, h)

  pub block_ends : (r : ℕ) (below : List V) (below' : List V') → AsideLike below below' → (x : Res V S) (x' : Res V' S') → EndsLike K x x' → EndsLike K (leave_block r below x) (leave_block r below' x')
  block_ends r below below' a (Go c) (Go c') h = kept_like r below below' a c c' h
  block_ends r below below' a (Leave j c) (Leave j' c') h =
      by_jump K (λ i. EndsLike K (leave_block r below (Leave j c)) (leave_block r below' (Leave i c'))) j j' h.0 (λ e. jumps_out r below below' a j e c c' h.1)
  block_ends r below below' a (Go c) (Leave j' c') h = absurd h
  block_ends r below below' a (Leave j c) (Go c') h = absurd h

  pub block_in_step : (p r : ℕ) (a : Sem V S) (b : Sem V' S') → CodeInStep K a b → CodeInStep K (block p r a) (block p r b)
  block_in_step p r a b h = record {
    by = λ d n c c' e.
        bind_like K (EndsLike K) (EndsLike K) n (a d n (entered p c)) (b d n (entered p c')) (λ x m. Done 0 (leave_block r (drop p c.operands) x)) (λ x m. Done 0 (leave_block r (drop p c'.operands) x))
        (h.by d n (entered p c) (entered p c') (entered_like p c c' e))
        (λ x x' m g. (refl, block_ends r (drop p c.operands) (drop p c'.operands) (aside_like p c c' e) x x' g));
  }

  -- passes through a loop
  module _ (again : ℕ → Conf V S → Out (World S) (Res V S)) (again' : ℕ → Conf V' S' → Out (World S') (Res V' S')) (goes : (n : ℕ) (c : Conf V S) (c' : Conf V' S') → ConfLike K c c' → OutLike K (EndsLike K) (again n c) (again' n c')) (p r : ℕ) (below : List V) (below' : List V') (aside : AsideLike below below') where
    pass_jumps : (j : Jump) → JumpLike K j (moved K j) → (c : Conf V S) (c' : Conf V' S') (n : ℕ) → ConfLike K c c' → OutLike K (EndsLike K) (leave_pass again p r below (Leave j c) n) (leave_pass again' p r below' (Leave (moved K j) c') n)
    pass_jumps (Branch zero) e c c' n h = goes n (entered p c) (entered p c') (entered_like p c c' h)
    pass_jumps (Branch (suc k)) e c c' n h = (refl, (refl, h))
    pass_jumps j e c c' n h = (refl, (e, h))

    pass_ends : (x : Res V S) (x' : Res V' S') (n : ℕ) → EndsLike K x x' → OutLike K (EndsLike K) (leave_pass again p r below x n) (leave_pass again' p r below' x' n)
    pass_ends (Go c) (Go c') n h = (refl, kept_like r below below' aside c c' h)
    pass_ends (Leave j c) (Leave j' c') n h =
        by_jump K (λ i. OutLike K (EndsLike K) (leave_pass again p r below (Leave j c) n) (leave_pass again' p r below' (Leave i c') n)) j j' h.0 (λ e. pass_jumps j e c c' n h.1)
    pass_ends (Go c) (Leave j' c') n h = absurd h
    pass_ends (Leave j c) (Go c') n h = absurd h

  passes_like : (k p r : ℕ) (below : List V) (below' : List V') → AsideLike below below' → (a : Sem V S) (b : Sem V' S') → CodeInStep K a b → (d n : ℕ) (c : Conf V S) (c' : Conf V' S') → ConfLike K c c' → OutLike K (EndsLike K) (passes k p r below a d n c) (passes k p r below' b d n c')
  passes_like zero p r below below' aside a b h d n c c' e = halted K c c' e
  passes_like (suc k) p r below below' aside a b h d n c c' e =
      turn_like K (EndsLike K) n c.world c'.world (λ m. bind m (a d m c) (leave_pass (passes k p r below a d) p r below)) (λ m. bind m (b d m c') (leave_pass (passes k p r below' b d) p r below'))
      (halted K c c' e)
      (λ m.
      bind_like K (EndsLike K) (EndsLike K) m (a d m c) (b d m c') (leave_pass (passes k p r below a d) p r below) (leave_pass (passes k p r below' b d) p r below') (h.by d m c c' e)
      (λ x x' i g.
      pass_ends (passes k p r below a d) (passes k p r below' b d) (λ i' y y' f. passes_like k p r below below' aside a b h d i' y y' f) p r below below' aside x x' i g))

  pub loop_in_step : (p r : ℕ) (a : Sem V S) (b : Sem V' S') → CodeInStep K a b → CodeInStep K (loop p r a) (loop p r b)
  loop_in_step p r a b h = record {
    by = λ d n c c' e. passes_like n p r (drop p c.operands) (drop p c'.operands) (aside_like p c c' e) a b h d n (entered p c) (entered p c') (entered_like p c c' e);
  }

  -- a choice
  picks : (is : Bool) (a e : Sem V S) (b f : Sem V' S') → CodeInStep K a b → CodeInStep K e f → CodeInStep K (if is then a else e) (if is then b else f)
  picks true a e b f h g = h
  picks false a e b f h g = g

  pub choose_in_step : (test : List V → Bool) (test' : List V' → Bool) → ((operands : List V) → test' (K.values operands) ≡ test operands) → (p r : ℕ) (a e : Sem V S) (b f : Sem V' S') → CodeInStep K a b → CodeInStep K e f → CodeInStep K (choose test p r a e) (choose test' p r b f)
  choose_in_step test test' same p r a e b f h g = record {
    by = λ d n c c' i.
        subst (λ (is : Bool). OutLike K (EndsLike K) (choose test p r a e d n c) (block p r (if is then b else f) d n (popped c'))) (sym (ap test' i.plain.operands ∙ same c.operands))
        ((block_in_step p r (if test c.operands then a else e) (if test c.operands then b else f) (picks (test c.operands) a e b f h g)).by d n (popped c) (popped c') (popped_like c c' i));
  }

  -- a handler
  taken_like : (e : ℕ) (o : Option (Caught V S)) (o' : Option (Caught V' S')) → CaughtLike K o o' → (c : Conf V S) (c' : Conf V' S') → ConfLike K c c' → EndsLike K (taken e o c) (taken e o' c')
  taken_like e None None k c c' h = (refl, h)
  taken_like e None (Some k') k c c' h = absurd k
  taken_like e (Some i) None k c c' h = absurd k
  taken_like e (Some i) (Some i') k c c' h = (
    k.0,
    record {
      plain = record {
        operands = k.1.operands;
        locals = h.plain.locals;
        state = k.1.state;
        sound_operands = k.1.sound;
        sound_locals = h.plain.sound_locals;
        safe = k.1.safe;
      };
      deepest = h.deepest;
    },
  )

  module _ (t : Handler V S) (t' : Handler V' S') (like : HandlerLike K t t') where
    jumps_handled : (j : Jump) → JumpLike K j (moved K j) → (c : Conf V S) (c' : Conf V' S') → ConfLike K c c' → EndsLike K (handled t (Leave j c)) (handled t' (Leave (moved K j) c'))
    jumps_handled (Throw e) i c c' h = taken_like e (t e c.world.state) (t' e c'.world.state) (like.catches e c.world.state c'.world.state h.plain.state h.plain.safe) c c' h
    jumps_handled j i c c' h = (i, h)

    handled_like : (x : Res V S) (x' : Res V' S') → EndsLike K x x' → EndsLike K (handled t x) (handled t' x')
    handled_like (Go c) (Go c') h = h
    handled_like (Leave j c) (Leave j' c') h = by_jump K (λ i. EndsLike K (handled t (Leave j c)) (handled t' (Leave i c'))) j j' h.0 (λ e. jumps_handled j e c c' h.1)
    handled_like (Go c) (Leave j' c') h = absurd h
    handled_like (Leave j c) (Go c') h = absurd h

    pub guard_in_step : (p r : ℕ) (a : Sem V S) (b : Sem V' S') → CodeInStep K a b → CodeInStep K (guard p r t a) (guard p r t' b)
    guard_in_step p r a b h = record {
      by = λ d n c c' e.
          bind_like K (EndsLike K) (EndsLike K) n (a d n (entered p c)) (b d n (entered p c')) (λ x m. Done 0 (handled t (leave_block r (drop p c.operands) x))) (λ x m. Done 0 (handled t' (leave_block r (drop p c'.operands) x)))
          (h.by d n (entered p c) (entered p c') (entered_like p c c' e))
          (λ x x' m g. (refl, handled_like (leave_block r (drop p c.operands) x) (leave_block r (drop p c'.operands) x') (block_ends r (drop p c.operands) (drop p c'.operands) (aside_like p c c' e) x x' g)));
    }
