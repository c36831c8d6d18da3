-- Calls, and the functions that they enter.
use Rattle.std.proofs.Common.{◌≡◌, ℕ, ◌+◌, max, List, [], take, drop, reverse, Option, Some, None, refl, sym, ap, ◌∙◌, subst}
use Rattle.evaluation_kit.specs.declared.jump.Jump.{Jump}
use Rattle.evaluation_kit.specs.declared.jump.Jump.TheVariants.{Branch, Return, Throw, TailCall, Trap, NoReply, Full, Stuck}
use Rattle.outcome_kit.specs.Outcome.{Done}
use Rattle.outcome_kit.specs.Code.{Go, Leave}
use Rattle.evaluation_kit.specs.Configurations.{World, Conf, Plain, PlainRes, Res, Sem, plain_of, settled}
use Rattle.evaluation_kit.specs.Control.{Function, entered, popped, returned, call, call_picked, call_by, opened, ended, leave_body, hosted, enter}
use Rattle.simulation_kit.specs.Likenesses.{Likeness, JumpLike, ResultLike, PickedLike, PickLike, Lasts, HostLike}
use Rattle.simulation_kit.proofs.Liking as liking
use Rattle.crossing.specs.InStep.{ConfLike, OutLike, EndsLike, ReturnsLike, CodeInStep, FuncInStep}
use Rattle.crossing.proofs.Sequences.{bind_like, moved, by_jump}
use Rattle.crossing.proofs.Blocks.{AsideLike, aside_like, entered_like, popped_like}

module _ {V S V' S' : Type 0} (K : Likeness V S V' S') where
  -- the end of a call
  resumed : (locals : List V) (locals' : List V') → AsideLike K locals locals' → (c : Conf V S) (c' : Conf V' S') → ConfLike K c c' → ConfLike K (record c { locals = locals }) (record c' { locals = locals' })
  resumed locals locals' l c c' h = record {
    plain = record {
      operands = h.plain.operands;
      locals = l.operands;
      state = h.plain.state;
      sound_operands = h.plain.sound_operands;
      sound_locals = l.sound;
      safe = h.plain.safe;
    };
    deepest = h.deepest;
  }

  returned_like : (locals : List V) (locals' : List V') (below : List V) (below' : List V') → AsideLike K locals locals' → AsideLike K below below' → (x : Res V S) (x' : Res V' S') → ReturnsLike K x x' → EndsLike K (returned locals below x) (returned locals' below' x')
  returned_like locals locals' below below' l b (Go c) (Go c') h = record {
    plain = record {
      operands = liking.appends K c.operands below c'.operands below' h.plain.operands b.operands;
      locals = l.operands;
      state = h.plain.state;
      sound_operands = K.keeps.appends c.operands below h.plain.sound_operands b.sound;
      sound_locals = l.sound;
      safe = h.plain.safe;
    };
    deepest = h.deepest;
  }
  returned_like locals locals' below below' l b (Leave j c) (Leave j' c') h = (h.1, resumed locals locals' l c c' h.2)
  returned_like locals locals' below below' l b (Go c) (Leave j' c') h = absurd h
  returned_like locals locals' below below' l b (Leave j c) (Go c') h = absurd h

  pub call_in_step : (p : ℕ) (f : Sem V S) (g : Sem V' S') → FuncInStep K f g → CodeInStep K (call p f) (call p g)
  call_in_step p f g h = record {
    by = λ d n c c' e.
        bind_like K (ReturnsLike K) (EndsLike K) n (f d n (entered p c)) (g d n (entered p c')) (λ x m. Done 0 (returned c.locals (drop p c.operands) x)) (λ x m. Done 0 (returned c'.locals (drop p c'.operands) x))
        (h.by d n (entered p c) (entered p c') (entered_like K p c c' e))
        (λ x x' m i. (refl, returned_like c.locals c'.locals (drop p c.operands) (drop p c'.operands) (record { operands = e.plain.locals; sound = e.plain.sound_locals }) (aside_like K p c c' e) x x' i));
  }

  -- a call of a function that is picked
  module _ (funcs : ℕ → Sem V S) (funcs' : ℕ → Sem V' S') (go : (x : ℕ) → K.keeps.Named x → FuncInStep K (funcs x) (funcs' (K.index x))) where
    picked_like : (p : ℕ) (o : Option ℕ) (o' : Option ℕ) → PickedLike K o o' → CodeInStep K (call_picked p funcs o) (call_picked p funcs' o')
    picked_like p None o' h = subst (λ i. CodeInStep K (call_picked p funcs None) (call_picked p funcs' i)) (sym h) (record { by = λ d n c c' e. (refl, (refl, e)) })
    picked_like p (Some f) o' h =
        subst (λ i. CodeInStep K (call_picked p funcs (Some f)) (call_picked p funcs' i)) (sym h.1)
        (record { by = λ d n c c' e. (call_in_step p (funcs f) (funcs' (K.index f)) (go f h.0)).by d n c c' e })

    pub call_by_in_step : (p : ℕ) (pick : Plain V S → Option ℕ) (pick' : Plain V' S' → Option ℕ) → PickLike K pick pick' → CodeInStep K (call_by p pick funcs) (call_by p pick' funcs')
    call_by_in_step p pick pick' h = record {
      by = λ d n c c' e.
          (picked_like p (pick (plain_of c)) (pick' (plain_of c')) (h.picks (plain_of c) (plain_of c') e.plain)).by d n (popped c) (popped c') (popped_like K c c' e);
    }

    -- the end of a body
    ended_like : (r : ℕ) (c : Conf V S) (c' : Conf V' S') → ConfLike K c c' → ReturnsLike K (ended r c) (ended r c')
    ended_like r c c' h = entered_like K r c c' h

    body_jumps : (d r : ℕ) (j : Jump) → JumpLike K j (moved K j) → (c : Conf V S) (c' : Conf V' S') (n : ℕ) → ConfLike K c c' → OutLike K (ReturnsLike K) (leave_body (λ g. funcs g d) r (Leave j c) n) (leave_body (λ g. funcs' g d) r (Leave (moved K j) c') n)
    body_jumps d r (Branch k) e c c' n h = (refl, ended_like r c c' h)
    body_jumps d r Return e c c' n h = (refl, ended_like r c c' h)
    body_jumps d r (TailCall g) e c c' n h = (go g e.0).by d n c c' h
    body_jumps d r (Throw x) e c c' n h = (refl, (tt, e, h))
    body_jumps d r Trap e c c' n h = (refl, (tt, e, h))
    body_jumps d r (NoReply x) e c c' n h = (refl, (tt, e, h))
    body_jumps d r Full e c c' n h = (refl, (tt, e, h))
    body_jumps d r Stuck e c c' n h = (refl, (tt, e, h))

    body_ends : (d r : ℕ) (x : Res V S) (x' : Res V' S') (n : ℕ) → EndsLike K x x' → OutLike K (ReturnsLike K) (leave_body (λ g. funcs g d) r x n) (leave_body (λ g. funcs' g d) r x' n)
    body_ends d r (Go c) (Go c') n h = (refl, ended_like r c c' h)
    body_ends d r (Leave j c) (Leave j' c') n h =
        by_jump K (λ i. OutLike K (ReturnsLike K) (leave_body (λ g. funcs g d) r (Leave j c) n) (leave_body (λ g. funcs' g d) r (Leave i c') n)) j j' h.0 (λ e. body_jumps d r j e c c' n h.1)
    body_ends d r (Go c) (Leave j' c') n h = absurd h
    body_ends d r (Leave j c) (Go c') n h = absurd h

    module _ {I I' : Type 0} (f : Function I V) (f' : Function I' V') (params : f'.params ≡ f.params) (results : f'.results ≡ f.results) (zeros : f'.zeros ≡ K.values f.zeros) (sound : K.keeps.Sound f.zeros) where
      opened_like : (d : ℕ) (c : Conf V S) (c' : Conf V' S') → ConfLike K c c' → ConfLike K (opened d f c) (opened d f' c')
      opened_like d c c' h = record {
        plain = record {
          operands = sym (liking.values_none K);
          locals =
              liking.appends K (reverse (take f.params c.operands)) f.zeros (reverse (take f'.params c'.operands)) f'.zeros
              (ap reverse (liking.takes K f.params f'.params c.operands c'.operands params h.plain.operands) ∙ K.reverse_values (take f.params c.operands)) zeros;
          state = h.plain.state;
          sound_operands = K.keeps.none;
          sound_locals = K.keeps.appends (reverse (take f.params c.operands)) f.zeros (K.keeps.reverses (take f.params c.operands) (K.keeps.takes f.params c.operands h.plain.sound_operands)) sound;
          safe = h.plain.safe;
        };
        deepest = ap (λ (i : ℕ). max i (d + 1)) h.deepest;
      }

      -- the entry of a function
      pub enter_in_step : (a : Sem V S) (b : Sem V' S') → CodeInStep K a b → FuncInStep K (enter a funcs f) (enter b funcs' f')
      enter_in_step a b h = record {
        by = λ d n c c' e.
            bind_like K (EndsLike K) (ReturnsLike K) n (a (d + 1) n (opened d f c)) (b (d + 1) n (opened d f' c')) (leave_body (λ g. funcs g d) f.results) (leave_body (λ g. funcs' g d) f'.results)
            (h.by (d + 1) n (opened d f c) (opened d f' c') (opened_like d c c' e))
            (λ x x' m g.
            subst (λ (r : ℕ). OutLike K (ReturnsLike K) (leave_body (λ i. funcs i d) f.results x m) (leave_body (λ i. funcs' i d) r x' m)) (sym results) (body_ends d f.results x x' m g));
      }

  -- a function of the host
  host_returns : (w : World S) (w' : World S') → w'.deepest ≡ w.deepest → (r : PlainRes V S) (r' : PlainRes V' S') → Lasts K r → ResultLike K r r' → ReturnsLike K (settled w r) (settled w' r')
  host_returns w w' e (Go q) (Go q') o h = record { plain = h; deepest = e }
  host_returns w w' e (Leave j q) (Leave j' q') o h = (o, h.0, record { plain = h.1; deepest = e })
  host_returns w w' e (Go q) (Leave j' q') o h = absurd h
  host_returns w w' e (Leave j q) (Go q') o h = absurd h

  pub host_in_step : (p p' : ℕ) (act : Plain V S → PlainRes V S) (act' : Plain V' S' → PlainRes V' S') → p' ≡ p → HostLike K act act' → FuncInStep K (hosted p act) (hosted p' act')
  host_in_step p p' act act' same h = record {
    by = λ d n c c' e.
        let q : Plain V S = record { operands = take p c.operands; locals = []; state = c.world.state } in
        let q' : Plain V' S' = record { operands = take p' c'.operands; locals = []; state = c'.world.state } in (
          refl,
          host_returns c.world c'.world e.deepest (act q) (act' q') (h.lasts q) (h.acts q q' (record {
            operands = liking.takes K p p' c.operands c'.operands same e.plain.operands;
            locals = sym (liking.values_none K);
            state = e.plain.state;
            sound_operands = K.keeps.takes p c.operands e.plain.sound_operands;
            sound_locals = K.keeps.none;
            safe = e.plain.safe;
          })),
        );
  }
