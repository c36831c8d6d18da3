-- A run under the answers that another run gave itself. The other run may be bounded, as its state says; then the free run
-- is the same, or the bounded one left by Full and the free run is further on.
use Rattle.std.proofs.Common.{◌≡◌, ℕ, zero, suc, ◌-◌, ◌≤◌, List, [], ◌++◌, ◌⊎◌, inl, inr, Bool, Option, Some, None, refl, sym, ap, ◌∙◌, subst, arith, append_assoc, append-nil}
use Rattle.std.proofs.lemmas.List.{append_cancel_left}
use Rattle.evaluation_kit.specs.declared.jump.Jump.{Jump}
use Rattle.evaluation_kit.specs.declared.jump.Jump.TheVariants.{Throw, Full}
use Rattle.outcome_kit.specs.Outcome.{Out, Done, Halt, after, bind, turn, place_of}
use Rattle.outcome_kit.specs.Code.{Go, Leave}
use Rattle.outcome_kit.proofs.Outcomes.{place_of-after}
use Rattle.evaluation_kit.specs.Configurations.{World, Conf, Plain, PlainRes, in_world, plain_of, deeper, settled}
use Rattle.evaluation_kit.specs.Control.{Callee, Own, Host, Caught, taken}
use Rattle.evaluation_kit.specs.Forms.{Form, Flat, Enclose, Repeat, Choose, Guard, Invoke, InvokeBy}
use Rattle.evaluation_kit.specs.Languages.{Language}
use Rattle.evaluation_kit.proofs.Closure.{Run, Place, Closed, Lighter, branch_ends, branch_moves, return_ends, tail_begins, traps, sticks, res_place, res_at}
use Rattle.evaluation_kit.proofs.Whole.{OwesForm, OwesCallee, Owes}
use Rattle.evaluation_kit.proofs.Growing.{state_after}

-- How the answers of a run stand in its state: those told so far; the state of a free run that is to read these; and when
-- a free run is where the bounded one left by Full, or further on.
pub record Answering (S : Type 0) : Type 1 where
  pub told : S → List Bool
  pub free : List Bool → S → S
  pub Beyond : S → S → Type 0
  pub Leads : S → S → Type 0
  pub stays : (s : S) → Leads s s
  pub joins : (a b c : S) → Leads a b → Leads b c → Leads a c
  pub tells : (a b : S) → Leads a b → (more : List Bool) × (told b ≡ told a ++ more)
  pub beyond_stays : (s a b : S) → Beyond s a → Leads a b → Beyond s b

nothing_more : {A : Type 0} (xs ys : List A) → xs ≡ xs ++ ys → ys ≡ []
nothing_more xs ys e = sym (append_cancel_left xs [] ys (append-nil xs ∙ e))

module _ {S : Type 0} (A : Answering S) where
  abbrev pub free_world : List Bool → World S → World S
  free_world g w = record w { state = A.free g w.state }

  module _ {R : Type 0} (pl : Place S R) where
    -- the outcome of the free run
    abbrev pub freed : List Bool → Out (World S) R → Out (World S) R
    freed t (Done u r) = Done u (pl.put (free_world t (pl.at r)) r)
    freed t (Halt h) = Halt (free_world t h)

    -- the bounded run left by Full, and the free one is further on
    abbrev pub Past : Out (World S) R → Out (World S) R → Type 0
    Past (Done u r) o = (pl.jump r ≡ Some Full) × A.Beyond (pl.at r).state (place_of pl.at o).state
    Past (Halt h) o = ⊥

    abbrev pub Replayed : List Bool → Out (World S) R → Out (World S) R → Type 0
    Replayed t o free = (free ≡ freed t o) ⊎ Past o free

    -- a run that begins after Full is over, where a free run can be further on at all
    pub record Over (w : World S) (o : Out (World S) R) : Type 0 where
      pub result : R
      pub is_done : o ≡ Done 0 result
      pub beyond : (s : S) → A.Beyond w.state s → A.Beyond (pl.at result).state s
      pub full : pl.jump result ≡ Some Full

    pub record ReplaysAt (N : ℕ) (j : Option Jump) (m : Run S R) (w : World S) : Type 0 where
      pub onward : (n : ℕ) → n ≤ N → A.Leads w.state (place_of pl.at (m w n)).state
      pub stops : j ≡ Some Full → (s : S) → A.Beyond w.state s → (n : ℕ) → n ≤ N → Over w (m w n)
      pub replays : (n : ℕ) → n ≤ N → (a t : List Bool) → A.told (place_of pl.at (m w n)).state ≡ A.told w.state ++ a → Replayed t (m w n) (m (free_world (a ++ t) w) n)

    replayed_after : (u : ℕ) (t : List Bool) (o free : Out (World S) R) → Replayed t o free → Replayed t (after u o) (after u free)
    replayed_after u t (Done v r) free (inl e) = inl (ap (after u) e)
    replayed_after u t (Halt h) free (inl e) = inl (ap (after u) e)
    replayed_after u t (Done v r) free (inr p) = inr (p.0, subst (λ w. A.Beyond (pl.at r).state w.state) (sym (place_of-after pl.at u free)) p.1)
    replayed_after u t (Halt h) free (inr p) = absurd p

    pub done_replays : (N : ℕ) (r : R) (w : World S) → ReplaysAt N (pl.jump r) (λ v n. Done 0 (pl.put v r)) w
    done_replays N r w = record {
      onward = λ n le. subst (λ v. A.Leads w.state v.state) (sym (pl.at_put w r)) (A.stays w.state);
      stops = λ full s b n le. record { result = pl.put w r; is_done = refl; beyond = λ v b'. subst (λ u. A.Beyond u.state v) (sym (pl.at_put w r)) b'; full = pl.jump_put w r ∙ full };
      replays = λ n le a t e.
          let none = nothing_more (A.told w.state) a (sym (ap (λ v. A.told v.state) (pl.at_put w r)) ∙ e) in
          let there = ap (λ v. pl.put (free_world t v) (pl.put w r)) (pl.at_put w r) ∙ pl.put_twice (free_world t w) w r in
          inl (ap (λ l. Done 0 (pl.put (free_world (l ++ t) w) r)) none ∙ ap (λ x. Done 0 x) (sym there));
    }

    no_jump : {X : Type 0} → None ≡ Some Full → X
    no_jump e = absurd cc

    halted_replays : (w : World S) (a t : List Bool) → A.told w.state ≡ A.told w.state ++ a → Replayed t (Halt w) (Halt (free_world (a ++ t) w))
    halted_replays w a t e = inl (ap (λ l. Halt (free_world (l ++ t) w)) (nothing_more (A.told w.state) a e))

    module _ (m : Run S R) (w : World S) where
      start_onward : (n : ℕ) → n ≤ 0 → A.Leads w.state (place_of pl.at (turn n w (m w))).state
      start_onward zero le = A.stays w.state
      start_onward (suc n) le = let no : ⊥ = omega arith in absurd no

      start_again : (n : ℕ) → n ≤ 0 → (a t : List Bool) → A.told (place_of pl.at (turn n w (m w))).state ≡ A.told w.state ++ a → Replayed t (turn n w (m w)) (turn n (free_world (a ++ t) w) (m (free_world (a ++ t) w)))
      start_again zero le a t e = halted_replays w a t e
      start_again (suc n) le a t e = let no : ⊥ = omega arith in absurd no

      pub start_replays : ReplaysAt 0 None (λ v n. turn n v (m v)) w
      start_replays = record { onward = start_onward; stops = λ e s b n le. no_jump e; replays = start_again }

      module _ (N : ℕ) (h : ReplaysAt N None m w) where
        turn_onward : (n : ℕ) → n ≤ suc N → A.Leads w.state (place_of pl.at (turn n w (m w))).state
        turn_onward zero le = A.stays w.state
        turn_onward (suc n) le =
            let less : n ≤ N = omega arith in
            subst (λ v. A.Leads w.state v.state) (sym (place_of-after pl.at 1 (m w n))) (h.onward n less)

        turn_again : (n : ℕ) → n ≤ suc N → (a t : List Bool) → A.told (place_of pl.at (turn n w (m w))).state ≡ A.told w.state ++ a → Replayed t (turn n w (m w)) (turn n (free_world (a ++ t) w) (m (free_world (a ++ t) w)))
        turn_again zero le a t e = halted_replays w a t e
        turn_again (suc n) le a t e =
            let less : n ≤ N = omega arith in
            replayed_after 1 t (m w n) (m (free_world (a ++ t) w) n) (h.replays n less a t (ap (λ v. A.told v.state) (sym (place_of-after pl.at 1 (m w n))) ∙ e))

        pub turn_replays : ReplaysAt (suc N) None (λ v n. turn n v (m v)) w
        turn_replays = record { onward = turn_onward; stops = λ e s b n le. no_jump e; replays = turn_again }

    pub less_replays : (N : ℕ) (j : Option Jump) (m : Run S R) (w : World S) → ReplaysAt (suc N) j m w → ReplaysAt N j m w
    less_replays N j m w h = record {
      onward = λ n le. let more : n ≤ suc N = omega arith in h.onward n more;
      stops = λ full s b n le. let more : n ≤ suc N = omega arith in h.stops full s b n more;
      replays = λ n le. let more : n ≤ suc N = omega arith in h.replays n more;
    }

    not_full : {X : Type 0} (j i : Option Jump) → Lighter j i → j ≡ Some Full → X
    not_full _ _ (branch_ends k) e = absurd cc
    not_full _ _ (branch_moves k i) e = absurd cc
    not_full _ _ return_ends e = absurd cc
    not_full _ _ (tail_begins f) e = absurd cc
    not_full _ _ traps e = absurd cc
    not_full _ _ sticks e = absurd cc

    pub lighter_replays : (N : ℕ) (j i : Option Jump) (m : Run S R) (w : World S) → Lighter j i → ReplaysAt N i m w → ReplaysAt N j m w
    lighter_replays N j i m w l h = record { onward = h.onward; stops = λ e s b n le. not_full j i l e; replays = h.replays }

    pub deeper_replays : (N d : ℕ) (m : Run S R) (w : World S) → ReplaysAt N None m (deeper d w) → ReplaysAt N None (λ v n. m (deeper d v) n) w
    deeper_replays N d m w h = record { onward = h.onward; stops = λ e s b n le. no_jump e; replays = h.replays }

    pub reads_replays : (X : Type 0) (N : ℕ) (g : World S → X) (m : X → Run S R) (w : World S) → ((a : List Bool) → g (free_world a w) ≡ g w) → ReplaysAt N None (m (g w)) w → ReplaysAt N None (λ v n. m (g v) v n) w
    reads_replays X N g m w s h = record {
      onward = h.onward;
      stops = λ e s b n le. no_jump e;
      replays = λ n le a t e. subst (λ x. Replayed t (m (g w) w n) (m x (free_world (a ++ t) w) n)) (sym (s (a ++ t))) (h.replays n le a t e);
    }

    pub alike_replays : (N : ℕ) (j : Option Jump) (m l : Run S R) (w : World S) → ((v : World S) (n : ℕ) → m v n ≡ l v n) → ReplaysAt N j m w → ReplaysAt N j l w
    alike_replays N j m l w e h = record {
      onward = λ n le. subst (λ o. A.Leads w.state (place_of pl.at o).state) (e w n) (h.onward n le);
      stops = λ full s b n le. subst (λ o. Over w o) (e w n) (h.stops full s b n le);
      replays = λ n le a t told.
          let again = h.replays n le a t (ap (λ o. A.told (place_of pl.at o).state) (e w n) ∙ told) in
          subst (λ o. Replayed t (l w n) o) (e (free_world (a ++ t) w) n) (subst (λ o. Replayed t o (m (free_world (a ++ t) w) n)) (e w n) again);
    }

  module _ {R R' : Type 0} (pl : Place S R) (pl' : Place S R') (N : ℕ) (k : R → ℕ → Out (World S) R') (next : (r : R) (w : World S) → ReplaysAt pl' N (pl.jump r) (λ v n. k (pl.put v r) n) w) where
    -- what follows a result
    following : (r : R) (n : ℕ) → n ≤ N → A.Leads (pl.at r).state (place_of pl'.at (k r n)).state
    following r n le = subst (λ x. A.Leads (pl.at r).state (place_of pl'.at (k x n)).state) (pl.put_at r) ((next r (pl.at r)).onward n le)

    bind_onward : (n : ℕ) (o : Out (World S) R) → n ≤ N → A.Leads (place_of pl.at o).state (place_of pl'.at (bind n o k)).state
    bind_onward n (Done u r) le =
        let less : n - u ≤ N = omega arith in
        subst (λ v. A.Leads (pl.at r).state v.state) (sym (place_of-after pl'.at u (k r (n - u)))) (following r (n - u) less)
    bind_onward n (Halt h) le = A.stays h.state

    bind_stops : (n : ℕ) (w : World S) (o : Out (World S) R) (s : S) → A.Beyond w.state s → n ≤ N → Over pl w o → Over pl' w (bind n o k)
    bind_stops n w o s b le over =
        let r = over.result in
        let less : n - 0 ≤ N = omega arith in
        let rest = (next r (pl.at r)).stops over.full s (over.beyond s b) (n - 0) less in
        let there : bind n o k ≡ Done 0 rest.result = ap (λ x. bind n x k) over.is_done ∙ ap (λ x. after 0 (k x (n - 0))) (sym (pl.put_at r)) ∙ ap (after 0) rest.is_done in
        record { result = rest.result; is_done = there; beyond = λ v b'. rest.beyond v (over.beyond v b'); full = rest.full }

    bind_again : (s : S) (n : ℕ) (o : Out (World S) R) (free : List Bool → Out (World S) R) → n ≤ N → A.Leads s (place_of pl.at o).state → ((a t : List Bool) → A.told (place_of pl.at o).state ≡ A.told s ++ a → Replayed pl t o (free (a ++ t))) → (a t : List Bool) → A.told (place_of pl'.at (bind n o k)).state ≡ A.told s ++ a → Replayed pl' t (bind n o k) (bind n (free (a ++ t)) k)
    bind_again s n (Done u r) free le l h a t e =
        let i = n - u in
        let less : i ≤ N = omega arith in
        let first = A.tells s (pl.at r).state l in
        let second = A.tells (pl.at r).state (place_of pl'.at (k r i)).state (following r i less) in
        let all : A.told (place_of pl'.at (k r i)).state ≡ A.told s ++ a = ap (λ v. A.told v.state) (sym (place_of-after pl'.at u (k r i))) ∙ e in
        let split : a ≡ first.0 ++ second.0 = append_cancel_left (A.told s) a (first.0 ++ second.0) (sym all ∙ second.1 ∙ ap (λ x. x ++ second.0) first.1 ∙ append_assoc (A.told s) first.0 second.0) in
        let answers : a ++ t ≡ first.0 ++ (second.0 ++ t) = ap (λ x. x ++ t) split ∙ append_assoc first.0 second.0 t in
        let same : k (pl.put (pl.at r) r) i ≡ k r i = ap (λ x. k x i) (pl.put_at r) in
        let rest = subst (λ o. Replayed pl' t o (k (pl.put (free_world (second.0 ++ t) (pl.at r)) r) i)) same ((next r (pl.at r)).replays i less second.0 t (ap (λ o. A.told (place_of pl'.at o).state) same ∙ second.1)) in
        subst (λ g. Replayed pl' t (after u (k r i)) (bind n (free g) k)) (sym answers)
        (bind_done n u r (second.0 ++ t) t (free (first.0 ++ (second.0 ++ t))) le (h first.0 (second.0 ++ t) first.1) rest)
      where
        bind_done : (n u : ℕ) (r : R) (g t : List Bool) (other : Out (World S) R) → n ≤ N → Replayed pl g (Done u r) other → Replayed pl' t (k r (n - u)) (k (pl.put (free_world g (pl.at r)) r) (n - u)) → Replayed pl' t (after u (k r (n - u))) (bind n other k)
        bind_done n u r g t other le (inl e) rest =
            subst (λ o. Replayed pl' t (after u (k r (n - u))) (bind n o k)) (sym e) (replayed_after pl' u t (k r (n - u)) (k (pl.put (free_world g (pl.at r)) r) (n - u)) rest)
        bind_done n u r g t other le (inr past) rest =
            let less : n - u ≤ N = omega arith in
            let over = (next r (pl.at r)).stops past.0 (place_of pl.at other).state past.1 (n - u) less in
            let there : k r (n - u) ≡ Done 0 over.result = ap (λ x. k x (n - u)) (sym (pl.put_at r)) ∙ over.is_done in
            let further = A.beyond_stays (pl.at r).state (place_of pl.at other).state (place_of pl'.at (bind n other k)).state past.1 (bind_onward n other le) in
            inr (subst (λ o. Past pl' (after u o) (bind n other k)) (sym there) (over.full, over.beyond (place_of pl'.at (bind n other k)).state further))
    bind_again s n (Halt w) free le l h a t e = halted t (free (a ++ t)) (h a t e)
      where
        halted : (t : List Bool) (other : Out (World S) R) → Replayed pl t (Halt w) other → Replayed pl' t (Halt w) (bind n other k)
        halted t other (inl e) = inl (ap (λ o. bind n o k) e)
        halted t other (inr p) = absurd p

    pub bind_replays : (j : Option Jump) (m : Run S R) (w : World S) → ReplaysAt pl N j m w → ReplaysAt pl' N j (λ v n. bind n (m v n) k) w
    bind_replays j m w h = record {
      onward = λ n le. A.joins w.state (place_of pl.at (m w n)).state (place_of pl'.at (bind n (m w n) k)).state (h.onward n le) (bind_onward n (m w n) le);
      stops = λ full s b n le. bind_stops n w (m w n) s b le (h.stops full s b n le);
      replays = λ n le. bind_again w.state n (m w n) (λ g. m (free_world g w) n) le (h.onward n le) (h.replays n le);
    }

  -- a run under its own answers
  unfoldable pub replaying : Closed S
  replaying = record {
    Holds = λ R pl N j m m'. (w : World S) → ReplaysAt pl N j m w;
    Stable = λ X g. (w : World S) (a : List Bool) → g (free_world a w) ≡ g w;
    done = λ R pl N r w. done_replays pl N r w;
    bind = λ R R' pl pl' N j m m' k k' h next w. bind_replays pl pl' N k next j m w (h w);
    start = λ R pl m m' w. start_replays pl m w;
    turn = λ R pl N m m' h w. turn_replays pl m w N (h w);
    less = λ R pl N j m m' h w. less_replays pl N j m w (h w);
    lighter = λ R pl N j i m m' e h w. lighter_replays pl N j i m w e (h w);
    deeper = λ R pl N m m' d h w. deeper_replays pl N d m w (h (deeper d w));
    reads = λ X R pl N g m m' s h w. reads_replays pl X N g m w (s w) (h (g w) w);
    alike = λ R pl N j m m' l l' h e e' w. alike_replays pl N j m l w e (h w);
  }

  -- what this asks of plain instructions, handlers, picks and host functions
  module _ {V : Type 0} where
    abbrev pub free_plain : List Bool → Plain V S → Plain V S
    free_plain g p = record p { state = A.free g p.state }

    abbrev pub freed_plain : List Bool → PlainRes V S → PlainRes V S
    freed_plain t (Go p) = Go (free_plain t p)
    freed_plain t (Leave j p) = Leave j (free_plain t p)

    abbrev pub PastPlain : PlainRes V S → PlainRes V S → Type 0
    PastPlain (Go p) free = ⊥
    PastPlain (Leave j p) free = (j ≡ Full) × A.Beyond p.state (state_after free)

    pub record ActReplays (act : Plain V S → PlainRes V S) : Type 0 where
      pub leads : (p : Plain V S) → A.Leads p.state (state_after (act p))
      pub again : (p : Plain V S) (a t : List Bool) → A.told (state_after (act p)) ≡ A.told p.state ++ a → (act (free_plain (a ++ t) p) ≡ freed_plain t (act p)) ⊎ PastPlain (act p) (act (free_plain (a ++ t) p))

    -- an instruction that neither reads nor tells an answer
    pub untouched : (act : Plain V S → PlainRes V S) → ((p : Plain V S) → A.Leads p.state (state_after (act p))) → ((p : Plain V S) → A.told (state_after (act p)) ≡ A.told p.state) → ((p : Plain V S) (g : List Bool) → act (free_plain g p) ≡ freed_plain g (act p)) → ActReplays act
    untouched act leads tells same = record {
      leads = leads;
      again = λ p a t e. inl (ap (λ l. act (free_plain (l ++ t) p)) (nothing_more (A.told p.state) a (sym (tells p) ∙ e)) ∙ same p t);
    }

    -- the state after a handler, and an exception that it takes in a free run
    abbrev pub caught_state : S → Option (Caught V S) → S
    caught_state s None = s
    caught_state s (Some k) = k.state

    abbrev pub freed_caught : List Bool → Option (Caught V S) → Option (Caught V S)
    freed_caught t None = None
    freed_caught t (Some k) = Some (record k { state = A.free t k.state })

    abbrev pub PastCaught : Option (Caught V S) → S → Type 0
    PastCaught None s = ⊥
    PastCaught (Some k) s = (k.jump ≡ Full) × A.Beyond k.state s

    pub record HandlerReplays (h : ℕ → S → Option (Caught V S)) : Type 0 where
      pub leads : (e : ℕ) (s : S) → A.Leads s (caught_state s (h e s))
      pub again : (e : ℕ) (s : S) (a t : List Bool) → A.told (caught_state s (h e s)) ≡ A.told s ++ a → (h e (A.free (a ++ t) s) ≡ freed_caught t (h e s)) ⊎ PastCaught (h e s) (caught_state (A.free (a ++ t) s) (h e (A.free (a ++ t) s)))

    settled_state : (w : World S) (r : PlainRes V S) → (res_at (settled w r)).state ≡ state_after r
    settled_state w (Go p) = refl
    settled_state w (Leave j p) = refl

    settled_again : (w : World S) (g t : List Bool) (r other : PlainRes V S) → (other ≡ freed_plain t r) ⊎ PastPlain r other → Replayed res_place t (Done 0 (settled w r)) (Done 0 (settled (free_world g w) other))
    settled_again w g t (Go p) other (inl e) = inl (ap (λ x. Done 0 (settled (free_world g w) x)) e)
    settled_again w g t (Leave j p) other (inl e) = inl (ap (λ x. Done 0 (settled (free_world g w) x)) e)
    settled_again w g t (Go p) other (inr past) = absurd past
    settled_again w g t (Leave j p) other (inr past) = inr (ap Some past.0, subst (λ s. A.Beyond p.state s) (sym (settled_state (free_world g w) other)) past.1)

    plain_replays : (act : Plain V S → PlainRes V S) → ActReplays act → (N : ℕ) (operands locals : List V) (w : World S) → ReplaysAt res_place N None (λ v n. Done 0 (settled v (act (record { operands = operands; locals = locals; state = v.state })))) w
    plain_replays act owes N operands locals w =
        let p : Plain V S = record { operands = operands; locals = locals; state = w.state } in
        record {
          onward = λ n le. subst (λ s. A.Leads w.state s) (sym (settled_state w (act p))) (owes.leads p);
          stops = λ e s b n le. absurd cc;
          replays = λ n le a t e. settled_again w (a ++ t) t (act p) (act (free_plain (a ++ t) p)) (owes.again p a t (sym (ap A.told (settled_state w (act p))) ∙ e));
        }

    taken_state : (e : ℕ) (w : World S) (c : Conf V S) (k : Option (Caught V S)) → (res_at (taken e k (in_world w c))).state ≡ caught_state w.state k
    taken_state e w c None = refl
    taken_state e w c (Some k) = refl

    taken_again : (e : ℕ) (w : World S) (c : Conf V S) (a t : List Bool) (k other : Option (Caught V S)) → A.told (caught_state w.state k) ≡ A.told w.state ++ a → (other ≡ freed_caught t k) ⊎ PastCaught k (caught_state (A.free (a ++ t) w.state) other) → Replayed res_place t (Done 0 (taken e k (in_world w c))) (Done 0 (taken e other (in_world (free_world (a ++ t) w) c)))
    taken_again e w c a t None other told (inl eq) =
        let none = nothing_more (A.told w.state) a told in
        inl (ap (λ x. Done 0 (taken e x (in_world (free_world (a ++ t) w) c))) eq ∙ ap (λ l. Done 0 (Leave (Throw e) (in_world (free_world (l ++ t) w) c))) none)
    taken_again e w c a t (Some k) other told (inl eq) = inl (ap (λ x. Done 0 (taken e x (in_world (free_world (a ++ t) w) c))) eq)
    taken_again e w c a t None other told (inr past) = absurd past
    taken_again e w c a t (Some k) other told (inr past) =
        inr (ap Some past.0, subst (λ s. A.Beyond k.state s) (sym (taken_state e (free_world (a ++ t) w) c other)) past.1)

    handler_replays : (h : ℕ → S → Option (Caught V S)) → HandlerReplays h → (N e : ℕ) (c : Conf V S) (w : World S) → ReplaysAt res_place N (Some (Throw e)) (λ v n. Done 0 (taken e (h e v.state) (in_world v c))) w
    handler_replays h owes N e c w = record {
      onward = λ n le. subst (λ s. A.Leads w.state s) (sym (taken_state e w c (h e w.state))) (owes.leads e w.state);
      stops = λ eq s b n le. absurd cc;
      replays = λ n le a t eq.
          let told = sym (ap A.told (taken_state e w c (h e w.state))) ∙ eq in
          taken_again e w c a t (h e w.state) (h e (A.free (a ++ t) w.state)) told (owes.again e w.state a t told);
    }

    abbrev pub PickReplays : {X : Type 0} → (Plain V S → X) → Type 0
    PickReplays pick = (p : Plain V S) (g : List Bool) → pick (free_plain g p) ≡ pick p

    abbrev pub FormReplays : {X : Type 0} → Form V S X → Type 0
    FormReplays (Flat act) = ActReplays act
    FormReplays (Guard p r h body) = HandlerReplays h
    FormReplays (InvokeBy p pick) = PickReplays pick
    FormReplays _ = Unit {0}

    abbrev pub CalleeReplays : {I : Type 0} → Option (Callee I V S) → Type 0
    CalleeReplays (Some (Host p act)) = ActReplays act
    CalleeReplays _ = Unit {0}

    form_owes : {X : Type 0} (form : Form V S X) → FormReplays form → OwesForm replaying form
    unfolding replaying
    form_owes (Flat act) h = record { leaf = λ N c w. plain_replays act h N c.operands c.locals w }
    form_owes (Guard p r handler body) h = record { handler = λ N e c w. handler_replays handler h N e c w }
    form_owes (InvokeBy p pick) h = record { stable = λ c w g. h (plain_of (in_world w c)) g }
    form_owes (Enclose p r body) h = tt
    form_owes (Repeat p r body) h = tt
    form_owes (Choose test p r first second) h = tt
    form_owes (Invoke p x) h = tt

    callee_owes : {I : Type 0} (o : Option (Callee I V S)) → CalleeReplays o → OwesCallee replaying o
    unfolding replaying
    callee_owes None h = tt
    callee_owes (Some (Own f)) h = tt
    callee_owes (Some (Host p act)) h = record { host = λ N operands w. plain_replays act h N operands [] w }

    -- a language whose parts are the same under their own answers
    pub replaying_owes : {I : Type 0} {F : Type 0 → Type 0} (L : Language I F V S) → ((X : Type 0) (l : F X) → FormReplays (L.layer X l)) → ((X : Type 0) (l : F X) → PickReplays (L.ready X l)) → ((x : ℕ) → CalleeReplays (L.callee x)) → Owes L replaying
    unfolding replaying
    replaying_owes L forms ready callees = record {
      forms = λ X l. form_owes (L.layer X l) (forms X l);
      ready = λ X l. record { stable = λ c w g. ready X l (plain_of (in_world w c)) g };
      callees = λ x. callee_owes (L.callee x) (callees x);
    }
