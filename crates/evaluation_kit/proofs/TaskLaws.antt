-- What each law asks of the tasks of a host.
use Rattle.std.proofs.Common.{◌≡◌, ℕ, List, ◌++◌, Bool, Some, None, refl, sym, ap, ◌∙◌, subst, le_refl, inl}
use Rattle.evaluation_kit.specs.declared.jump.Jump.{Jump}
use Rattle.evaluation_kit.specs.declared.jump.Jump.TheVariants.{Full}
use Rattle.outcome_kit.specs.Outcome.{Done}
use Rattle.outcome_kit.specs.Code.{Go, Leave}
use Rattle.outcome_kit.proofs.Growing.{Order}
use Rattle.evaluation_kit.specs.Configurations.{World, PlainRes, Res, in_world}
use Rattle.evaluation_kit.specs.Tasks.{Status, Task, Change, Enter, placed, plain_result, shown}
use Rattle.evaluation_kit.proofs.Closure.{res_put, res_jump}
use Rattle.evaluation_kit.proofs.Tasks.{OwesTask, status_place, status_at}
use Rattle.evaluation_kit.proofs.Growing.{state_after, Leads, at_once, growing}
use Rattle.evaluation_kit.proofs.Invariants.{Kept, After, PlainAfter, Leaves, keeping}
use Rattle.evaluation_kit.proofs.Replaying.{Answering, ReplaysAt, Replayed, freed_plain, free_world, replaying}
use Rattle.evaluation_kit.proofs.Cutting.{Bounding, bounded_plain, CutsAt, Cut, bound_world, cutting}

-- the state in a status
abbrev pub status_state : {S : Type 0} → Status S → S
status_state (Go s) = s
status_state (Leave j s) = s

placed_state : {S : Type 0} (w : World S) (r : Status S) → (status_at (placed w r)).state ≡ status_state r
placed_state w (Go s) = refl
placed_state w (Leave j s) = refl

module _ {S : Type 0} (order : Order S) where
  -- states lead on
  abbrev pub TaskLeads : {V : Type 0} → Task V S → Type 0
  TaskLeads (Change f) = (s : S) → order.Leads s (status_state (f s))
  TaskLeads {V} (Enter x operands see) = (r : PlainRes V S) → order.Leads (state_after r) (status_state (see r))

  placed_leads : (w : World S) (r : Status S) → order.Leads w.state (status_state r) → Leads order w (status_at (placed w r))
  placed_leads w (Go s) l = record { state = l; deepest = le_refl w.deepest }
  placed_leads w (Leave j s) l = record { state = l; deepest = le_refl w.deepest }

  shown_leads : {V : Type 0} (see : PlainRes V S → Status S) → ((r : PlainRes V S) → order.Leads (state_after r) (status_state (see r))) → (w : World S) (r : Res V S) → Leads order w (status_at (shown see (res_put w r)))
  shown_leads see h w (Go c) = placed_leads w (see (plain_result (Go (in_world w c)))) (h (plain_result (Go (in_world w c))))
  shown_leads see h w (Leave j c) = placed_leads w (see (plain_result (Leave j (in_world w c)))) (h (plain_result (Leave j (in_world w c))))

  pub growing_task : {V : Type 0} (t : Task V S) → TaskLeads t → OwesTask (growing order) t
  unfolding growing
  growing_task (Change f) h = record { change = λ N w. at_once order status_at N w (placed w (f w.state)) (placed_leads w (f w.state) (h w.state)) }
  growing_task (Enter x operands see) h = record { shows = λ N r w. at_once order status_at N w (shown see (res_put w r)) (shown_leads see h w r) }

module _ {S : Type 0} (K : Kept S) where
  -- what every state keeps
  abbrev pub StatusAfter : Status S → Type 0
  StatusAfter (Go s) = K.Always s
  StatusAfter (Leave j s) = After K (Some j) s

  abbrev pub TaskKeeps : {V : Type 0} → Task V S → Type 0
  TaskKeeps (Change f) = (s : S) → K.Always s → StatusAfter (f s)
  TaskKeeps {V} (Enter x operands see) = (r : PlainRes V S) → PlainAfter K r → StatusAfter (see r)

  placed_keeps : (w : World S) (r : Status S) → StatusAfter r → Leaves K status_place (Done 0 (placed w r))
  placed_keeps w (Go s) h = record { always = h; at_jump = tt }
  placed_keeps w (Leave j s) h = h

  shown_keeps : {V : Type 0} (see : PlainRes V S → Status S) → ((r : PlainRes V S) → PlainAfter K r → StatusAfter (see r)) → (w : World S) (r : Res V S) → After K (res_jump r) w.state → Leaves K status_place (Done 0 (shown see (res_put w r)))
  shown_keeps see g w (Go c) h = placed_keeps w (see (plain_result (Go (in_world w c)))) (g (plain_result (Go (in_world w c))) h.always)
  shown_keeps see g w (Leave j c) h = placed_keeps w (see (plain_result (Leave j (in_world w c)))) (g (plain_result (Leave j (in_world w c))) h)

  pub keeping_task : {V : Type 0} (t : Task V S) → TaskKeeps t → OwesTask (keeping K) t
  unfolding keeping
  keeping_task (Change f) g = record { change = λ N. record { by = λ w n le h. placed_keeps w (f w.state) (g w.state h.always) } }
  keeping_task (Enter x operands see) g = record { shows = λ N r. record { by = λ w n le h. shown_keeps see g w r h } }

module _ {S : Type 0} (A : Answering S) where
  -- a status in a free run
  abbrev pub freed_status : List Bool → Status S → Status S
  freed_status t (Go s) = Go (A.free t s)
  freed_status t (Leave j s) = Leave j (A.free t s)

  -- a change of the state under its own answers
  pub record ChangeReplays (f : S → Status S) : Type 0 where
    pub leads : (s : S) → A.Leads s (status_state (f s))
    pub again : (s : S) (a t : List Bool) → A.told (status_state (f s)) ≡ A.told s ++ a → f (A.free (a ++ t) s) ≡ freed_status t (f s)

  -- the end of a bounded run that Full left
  pub record EndsFull (r : Status S) (s : S) : Type 0 where
    pub state : S
    pub is_full : r ≡ Leave Full state
    pub beyond : (v : S) → A.Beyond s v → A.Beyond state v

  -- what becomes of the result of a call, under its own answers: one by Full ends the run, where a free run can be
  -- further on
  pub record ShownReplays {V : Type 0} (see : PlainRes V S → Status S) : Type 0 where
    pub leads : (r : PlainRes V S) → A.Leads (state_after r) (status_state (see r))
    pub again : (r : PlainRes V S) (a t : List Bool) → A.told (status_state (see r)) ≡ A.told (state_after r) ++ a → see (freed_plain A (a ++ t) r) ≡ freed_status t (see r)
    pub ends : (operands locals : List V) (s v : S) → A.Beyond s v → EndsFull (see (Leave Full (record { operands = operands; locals = locals; state = s }))) s

  abbrev pub TaskReplays : {V : Type 0} → Task V S → Type 0
  TaskReplays (Change f) = ChangeReplays f
  TaskReplays (Enter x operands see) = ShownReplays see

  placed_again : (w : World S) (g t : List Bool) (r other : Status S) → other ≡ freed_status t r → Replayed A status_place t (Done 0 (placed w r)) (Done 0 (placed (free_world A g w) other))
  placed_again w g t (Go s) other e = inl (ap (λ x. Done 0 (placed (free_world A g w) x)) e)
  placed_again w g t (Leave j s) other e = inl (ap (λ x. Done 0 (placed (free_world A g w) x)) e)

  change_replays : (f : S → Status S) → ChangeReplays f → (N : ℕ) (w : World S) → ReplaysAt A status_place N None (λ v n. Done 0 (placed v (f v.state))) w
  change_replays f h N w = record {
    onward = λ n le. subst (λ s. A.Leads w.state s) (sym (placed_state w (f w.state))) (h.leads w.state);
    stops = λ e s b n le. absurd cc;
    replays = λ n le a t e. placed_again w (a ++ t) t (f w.state) (f (A.free (a ++ t) w.state)) (h.again w.state a t (sym (ap A.told (placed_state w (f w.state))) ∙ e));
  }

  module _ {V : Type 0} (see : PlainRes V S → Status S) (h : ShownReplays see) where
    -- a result that is put into a world
    seen : World S → Res V S → PlainRes V S
    seen w r = plain_result (res_put w r)

    shown_is : (w : World S) (r : Res V S) → shown see (res_put w r) ≡ placed w (see (seen w r))
    unfolding seen
    shown_is w (Go c) = refl
    shown_is w (Leave j c) = refl

    seen_state : (w : World S) (r : Res V S) → state_after (seen w r) ≡ w.state
    unfolding seen
    seen_state w (Go c) = refl
    seen_state w (Leave j c) = refl

    seen_free : (w : World S) (g : List Bool) (r : Res V S) → seen (free_world A g w) r ≡ freed_plain A g (seen w r)
    unfolding seen
    seen_free w g (Go c) = refl
    seen_free w g (Leave j c) = refl

    shown_state : (w : World S) (r : Res V S) → (status_at (shown see (res_put w r))).state ≡ status_state (see (seen w r))
    shown_state w r = ap (λ x. (status_at x).state) (shown_is w r) ∙ placed_state w (see (seen w r))

    over_full : (w : World S) (c : Res V S) (s : S) → A.Beyond w.state s → res_jump c ≡ Some Full → EndsFull (see (seen w c)) w.state
    unfolding seen
    over_full w (Go c) s b e = absurd cc
    over_full w (Leave j c) s b e = subst (λ i. EndsFull (see (Leave i (record { operands = c.operands; locals = c.locals; state = w.state }))) w.state) (sym (same_jump j e)) (h.ends c.operands c.locals w.state s b)
      where
        same_jump : (i : Jump) → Some i ≡ Some Full → i ≡ Full
        same_jump i e = cc

    shown_replays : (N : ℕ) (r : Res V S) (w : World S) → ReplaysAt A status_place N (res_jump r) (λ v n. Done 0 (shown see (res_put v r))) w
    shown_replays N r w = record {
      onward = λ n le. subst (λ s. A.Leads w.state s) (sym (shown_state w r)) (subst (λ s. A.Leads s (status_state (see (seen w r)))) (seen_state w r) (h.leads (seen w r)));
      stops = λ e s b n le.
          let over = over_full w r s b e in
          record {
            result = Leave Full (record w { state = over.state });
            is_done = ap (λ x. Done 0 x) (shown_is w r ∙ ap (placed w) over.is_full);
            beyond = over.beyond;
            full = refl;
          };
      replays = λ n le a t e.
          let told = sym (ap A.told (shown_state w r)) ∙ e ∙ ap (λ s. A.told s ++ a) (sym (seen_state w r)) in
          let same : see (seen (free_world A (a ++ t) w) r) ≡ freed_status t (see (seen w r)) = ap see (seen_free w (a ++ t) r) ∙ h.again (seen w r) a t told in
          subst (λ x. Replayed A status_place t (Done 0 x) (Done 0 (shown see (res_put (free_world A (a ++ t) w) r)))) (sym (shown_is w r))
          (subst (λ x. Replayed A status_place t (Done 0 (placed w (see (seen w r)))) (Done 0 x)) (sym (shown_is (free_world A (a ++ t) w) r))
          (placed_again w (a ++ t) t (see (seen w r)) (see (seen (free_world A (a ++ t) w) r)) same));
    }

  pub replaying_task : {V : Type 0} (t : Task V S) → TaskReplays t → OwesTask (replaying A) t
  unfolding replaying
  replaying_task (Change f) h = record { change = λ N w. change_replays f h N w }
  replaying_task (Enter x operands see) h = record { shows = λ N r w. shown_replays see h N r w }

module _ {S : Type 0} (B : Bounding S) where
  -- a status in a bounded run
  abbrev pub bounded_status : Status S → Status S
  bounded_status (Go s) = Go (B.bound s)
  bounded_status (Leave j s) = Leave j (B.bound s)

  pub record ChangeCuts (f : S → Status S) : Type 0 where
    pub leads : (s : S) → B.Leads s (status_state (f s))
    pub cuts : (s : S) → B.Fine s → B.Fine (status_state (f s)) × (f (B.bound s) ≡ bounded_status (f s))

  pub record ShownCuts {V : Type 0} (see : PlainRes V S → Status S) : Type 0 where
    pub leads : (r : PlainRes V S) → B.Leads (state_after r) (status_state (see r))
    pub cuts : (r : PlainRes V S) → B.Fine (state_after r) → B.Fine (status_state (see r)) × (see (bounded_plain B r) ≡ bounded_status (see r))

  abbrev pub TaskCuts : {V : Type 0} → Task V S → Type 0
  TaskCuts (Change f) = ChangeCuts f
  TaskCuts (Enter x operands see) = ShownCuts see

  placed_cut : (w : World S) (r other : Status S) → B.Fine (status_state r) × (other ≡ bounded_status r) → Cut B status_place (Done 0 (placed w r)) (Done 0 (placed (bound_world B w) other))
  placed_cut w (Go s) other e = inl (e.0, ap (λ x. Done 0 (placed (bound_world B w) x)) e.1)
  placed_cut w (Leave j s) other e = inl (e.0, ap (λ x. Done 0 (placed (bound_world B w) x)) e.1)

  change_cuts : (f : S → Status S) → ChangeCuts f → (N : ℕ) (w : World S) → CutsAt B status_place N (λ v n. Done 0 (placed v (f v.state))) w
  change_cuts f h N w = record {
    onward = λ n le. subst (λ s. B.Leads w.state s) (sym (placed_state w (f w.state))) (h.leads w.state);
    cuts = λ fine n le. placed_cut w (f w.state) (f (B.bound w.state)) (h.cuts w.state fine);
  }

  module _ {V : Type 0} (see : PlainRes V S → Status S) (h : ShownCuts see) where
    shown_cuts : (N : ℕ) (r : Res V S) (w : World S) → CutsAt B status_place N (λ v n. Done 0 (shown see (res_put v r))) w
    shown_cuts N (Go c) w =
        let p = plain_result (Go (in_world w c)) in
        record {
          onward = λ n le. subst (λ s. B.Leads w.state s) (sym (placed_state w (see p))) (h.leads p);
          cuts = λ fine n le. placed_cut w (see p) (see (bounded_plain B p)) (h.cuts p fine);
        }
    shown_cuts N (Leave j c) w =
        let p = plain_result (Leave j (in_world w c)) in
        record {
          onward = λ n le. subst (λ s. B.Leads w.state s) (sym (placed_state w (see p))) (h.leads p);
          cuts = λ fine n le. placed_cut w (see p) (see (bounded_plain B p)) (h.cuts p fine);
        }

  pub cutting_task : {V : Type 0} (t : Task V S) → TaskCuts t → OwesTask (cutting B) t
  unfolding cutting
  cutting_task (Change f) h = record { change = λ N w. change_cuts f h N w }
  cutting_task (Enter x operands see) h = record { shows = λ N r w. shown_cuts see h N r w }
