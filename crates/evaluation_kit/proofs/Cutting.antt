-- A run that is bounded against the same run without bounds: the same as long as nothing is refused, and from there on the
-- bounded run has what the other had before.
use Rattle.std.proofs.Common.{◌≡◌, ℕ, zero, suc, ◌-◌, ◌≤◌, List, [], ◌⊎◌, inl, inr, Option, Some, None, refl, sym, ap, ◌∙◌, subst, arith}
use Rattle.outcome_kit.specs.Outcome.{Out, Done, Halt, after, bind, turn, place_of}
use Rattle.outcome_kit.specs.Code.{Go, Leave}
use Rattle.outcome_kit.proofs.Outcomes.{place_of-after}
use Rattle.evaluation_kit.specs.Configurations.{World, Conf, Plain, PlainRes, in_world, plain_of, deeper, settled}
use Rattle.evaluation_kit.specs.Control.{Callee, Own, Host, Caught, taken}
use Rattle.evaluation_kit.specs.Forms.{Form, Flat, Enclose, Repeat, Choose, Guard, Invoke, InvokeBy}
use Rattle.evaluation_kit.specs.Languages.{Language}
use Rattle.evaluation_kit.proofs.Closure.{Run, Place, Closed, res_place, res_at}
use Rattle.evaluation_kit.proofs.Whole.{OwesForm, OwesCallee, Owes}
use Rattle.evaluation_kit.proofs.Growing.{state_after}

-- How bounds stand in the state of a run: the state with the bounds, when nothing was refused so far, and when the bounded
-- run has parted from the other, which is for good.
pub record Bounding (S : Type 0) : Type 1 where
  pub Leads : S → S → Type 0
  pub stays : (s : S) → Leads s s
  pub joins : (a b c : S) → Leads a b → Leads b c → Leads a c
  pub bound : S → S
  pub Fine : S → Type 0
  pub Apart : S → S → Type 0
  pub apart_stays : (s t a b : S) → Apart s t → Leads s a → Leads t b → Apart a b

module _ {S : Type 0} (B : Bounding S) where
  abbrev pub bound_world : World S → World S
  bound_world w = record w { state = B.bound w.state }

  module _ {R : Type 0} (pl : Place S R) where
    -- the outcome of the bounded run
    abbrev pub bounded : Out (World S) R → Out (World S) R
    bounded (Done u r) = Done u (pl.put (bound_world (pl.at r)) r)
    bounded (Halt h) = Halt (bound_world h)

    abbrev pub Cut : Out (World S) R → Out (World S) R → Type 0
    Cut o other = (B.Fine (place_of pl.at o).state × (other ≡ bounded o)) ⊎ B.Apart (place_of pl.at o).state (place_of pl.at other).state

    pub record CutsAt (N : ℕ) (m : Run S R) (w : World S) : Type 0 where
      pub onward : (n : ℕ) → n ≤ N → B.Leads w.state (place_of pl.at (m w n)).state
      pub cuts : B.Fine w.state → (n : ℕ) → n ≤ N → Cut (m w n) (m (bound_world w) n)

    cut_after : (u : ℕ) (o other : Out (World S) R) → Cut o other → Cut (after u o) (after u other)
    cut_after u (Done v r) other (inl e) = inl (e.0, ap (after u) e.1)
    cut_after u (Halt h) other (inl e) = inl (e.0, ap (after u) e.1)
    cut_after u (Done v r) other (inr e) = inr (subst (λ w. B.Apart (pl.at r).state w.state) (sym (place_of-after pl.at u other)) e)
    cut_after u (Halt h) other (inr e) = inr (subst (λ w. B.Apart h.state w.state) (sym (place_of-after pl.at u other)) e)

    pub done_cuts : (N : ℕ) (r : R) (w : World S) → CutsAt N (λ v n. Done 0 (pl.put v r)) w
    done_cuts N r w = record {
      onward = λ n le. subst (λ v. B.Leads w.state v.state) (sym (pl.at_put w r)) (B.stays w.state);
      cuts = λ fine n le.
          let there = ap (λ v. pl.put (bound_world v) (pl.put w r)) (pl.at_put w r) ∙ pl.put_twice (bound_world w) w r in
          inl (subst (λ v. B.Fine v.state) (sym (pl.at_put w r)) fine, ap (λ x. Done 0 x) (sym there));
    }

    module _ (m : Run S R) (w : World S) where
      start_onward : (n : ℕ) → n ≤ 0 → B.Leads w.state (place_of pl.at (turn n w (m w))).state
      start_onward zero le = B.stays w.state
      start_onward (suc n) le = let no : ⊥ = omega arith in absurd no

      start_cut : B.Fine w.state → (n : ℕ) → n ≤ 0 → Cut (turn n w (m w)) (turn n (bound_world w) (m (bound_world w)))
      start_cut fine zero le = inl (fine, refl)
      start_cut fine (suc n) le = let no : ⊥ = omega arith in absurd no

      pub start_cuts : CutsAt 0 (λ v n. turn n v (m v)) w
      start_cuts = record { onward = start_onward; cuts = start_cut }

      module _ (N : ℕ) (h : CutsAt N m w) where
        turn_onward : (n : ℕ) → n ≤ suc N → B.Leads w.state (place_of pl.at (turn n w (m w))).state
        turn_onward zero le = B.stays w.state
        turn_onward (suc n) le =
            let less : n ≤ N = omega arith in
            subst (λ v. B.Leads w.state v.state) (sym (place_of-after pl.at 1 (m w n))) (h.onward n less)

        turn_cut : B.Fine w.state → (n : ℕ) → n ≤ suc N → Cut (turn n w (m w)) (turn n (bound_world w) (m (bound_world w)))
        turn_cut fine zero le = inl (fine, refl)
        turn_cut fine (suc n) le = let less : n ≤ N = omega arith in cut_after 1 (m w n) (m (bound_world w) n) (h.cuts fine n less)

        pub turn_cuts : CutsAt (suc N) (λ v n. turn n v (m v)) w
        turn_cuts = record { onward = turn_onward; cuts = turn_cut }

    pub less_cuts : (N : ℕ) (m : Run S R) (w : World S) → CutsAt (suc N) m w → CutsAt N m w
    less_cuts N m w h = record {
      onward = λ n le. let more : n ≤ suc N = omega arith in h.onward n more;
      cuts = λ fine n le. let more : n ≤ suc N = omega arith in h.cuts fine n more;
    }

    pub deeper_cuts : (N d : ℕ) (m : Run S R) (w : World S) → CutsAt N m (deeper d w) → CutsAt N (λ v n. m (deeper d v) n) w
    deeper_cuts N d m w h = record { onward = h.onward; cuts = h.cuts }

    pub reads_cuts : (X : Type 0) (N : ℕ) (g : World S → X) (m : X → Run S R) (w : World S) → g (bound_world w) ≡ g w → CutsAt N (m (g w)) w → CutsAt N (λ v n. m (g v) v n) w
    reads_cuts X N g m w s h = record {
      onward = h.onward;
      cuts = λ fine n le. subst (λ x. Cut (m (g w) w n) (m x (bound_world w) n)) (sym s) (h.cuts fine n le);
    }

    pub alike_cuts : (N : ℕ) (m l : Run S R) (w : World S) → ((v : World S) (n : ℕ) → m v n ≡ l v n) → CutsAt N m w → CutsAt N l w
    alike_cuts N m l w e h = record {
      onward = λ n le. subst (λ o. B.Leads w.state (place_of pl.at o).state) (e w n) (h.onward n le);
      cuts = λ fine n le. subst (λ o. Cut (l w n) o) (e (bound_world w) n) (subst (λ o. Cut o (m (bound_world w) n)) (e w n) (h.cuts fine n le));
    }

  module _ {R R' : Type 0} (pl : Place S R) (pl' : Place S R') (N : ℕ) (k : R → ℕ → Out (World S) R') (next : (r : R) (w : World S) → CutsAt pl' N (λ v n. k (pl.put v r) n) w) where
    following : (r : R) (n : ℕ) → n ≤ N → B.Leads (pl.at r).state (place_of pl'.at (k r n)).state
    following r n le = subst (λ x. B.Leads (pl.at r).state (place_of pl'.at (k x n)).state) (pl.put_at r) ((next r (pl.at r)).onward n le)

    bind_onward : (n : ℕ) (o : Out (World S) R) → n ≤ N → B.Leads (place_of pl.at o).state (place_of pl'.at (bind n o k)).state
    bind_onward n (Done u r) le =
        let less : n - u ≤ N = omega arith in
        subst (λ v. B.Leads (pl.at r).state v.state) (sym (place_of-after pl'.at u (k r (n - u)))) (following r (n - u) less)
    bind_onward n (Halt h) le = B.stays h.state

    bind_cut : (n : ℕ) (o other : Out (World S) R) → n ≤ N → Cut pl o other → Cut pl' (bind n o k) (bind n other k)
    bind_cut n (Done u r) other le (inl e) =
        let less : n - u ≤ N = omega arith in
        let rest = subst (λ x. Cut pl' x (k (pl.put (bound_world (pl.at r)) r) (n - u))) (ap (λ x. k x (n - u)) (pl.put_at r)) ((next r (pl.at r)).cuts e.0 (n - u) less) in
        subst (λ x. Cut pl' (after u (k r (n - u))) (bind n x k)) (sym e.1) (cut_after pl' u (k r (n - u)) (k (pl.put (bound_world (pl.at r)) r) (n - u)) rest)
    bind_cut n (Halt h) other le (inl e) = inl (e.0, ap (λ x. bind n x k) e.1)
    bind_cut n o other le (inr apart) =
        inr (B.apart_stays (place_of pl.at o).state (place_of pl.at other).state (place_of pl'.at (bind n o k)).state (place_of pl'.at (bind n other k)).state apart (bind_onward n o le) (bind_onward n other le))

    pub bind_cuts : (m : Run S R) → ((w : World S) → CutsAt pl N m w) → (w : World S) → CutsAt pl' N (λ v n. bind n (m v n) k) w
    bind_cuts m h w = record {
      onward = λ n le. B.joins w.state (place_of pl.at (m w n)).state (place_of pl'.at (bind n (m w n) k)).state ((h w).onward n le) (bind_onward n (m w n) le);
      cuts = λ fine n le. bind_cut n (m w n) (m (bound_world w) n) le ((h w).cuts fine n le);
    }

  -- a bounded run is the other up to where something is refused
  unfoldable pub cutting : Closed S
  cutting = record {
    Holds = λ R pl N j m m'. (w : World S) → CutsAt pl N m w;
    Stable = λ X g. (w : World S) → g (bound_world w) ≡ g w;
    done = λ R pl N r w. done_cuts pl N r w;
    bind = λ R R' pl pl' N j m m' k k' h next w. bind_cuts pl pl' N k next m h w;
    start = λ R pl m m' w. start_cuts pl m w;
    turn = λ R pl N m m' h w. turn_cuts pl m w N (h w);
    less = λ R pl N j m m' h w. less_cuts pl N m w (h w);
    lighter = λ R pl N j i m m' e h. h;
    deeper = λ R pl N m m' d h w. deeper_cuts pl N d m w (h (deeper d w));
    reads = λ X R pl N g m m' s h w. reads_cuts pl X N g m w (s w) (h (g w) w);
    alike = λ R pl N j m m' l l' h e e' w. alike_cuts pl N m l w e (h w);
  }

  -- what this asks of plain instructions, handlers, picks and host functions
  module _ {V : Type 0} where
    abbrev pub bound_plain : Plain V S → Plain V S
    bound_plain p = record p { state = B.bound p.state }

    abbrev pub bounded_plain : PlainRes V S → PlainRes V S
    bounded_plain (Go p) = Go (bound_plain p)
    bounded_plain (Leave j p) = Leave j (bound_plain p)

    pub record ActCuts (act : Plain V S → PlainRes V S) : Type 0 where
      pub leads : (p : Plain V S) → B.Leads p.state (state_after (act p))
      pub cuts : (p : Plain V S) → B.Fine p.state → (B.Fine (state_after (act p)) × (act (bound_plain p) ≡ bounded_plain (act p))) ⊎ B.Apart (state_after (act p)) (state_after (act (bound_plain p)))

    abbrev pub caught_state : S → Option (Caught V S) → S
    caught_state s None = s
    caught_state s (Some k) = k.state

    abbrev pub bounded_caught : Option (Caught V S) → Option (Caught V S)
    bounded_caught None = None
    bounded_caught (Some k) = Some (record k { state = B.bound k.state })

    pub record HandlerCuts (h : ℕ → S → Option (Caught V S)) : Type 0 where
      pub leads : (e : ℕ) (s : S) → B.Leads s (caught_state s (h e s))
      pub cuts : (e : ℕ) (s : S) → B.Fine s → (B.Fine (caught_state s (h e s)) × (h e (B.bound s) ≡ bounded_caught (h e s))) ⊎ B.Apart (caught_state s (h e s)) (caught_state (B.bound s) (h e (B.bound s)))

    settled_state : (w : World S) (r : PlainRes V S) → (res_at (settled w r)).state ≡ state_after r
    settled_state w (Go p) = refl
    settled_state w (Leave j p) = refl

    settled_cut : (w : World S) (r other : PlainRes V S) → (B.Fine (state_after r) × (other ≡ bounded_plain r)) ⊎ B.Apart (state_after r) (state_after other) → Cut res_place (Done 0 (settled w r)) (Done 0 (settled (bound_world w) other))
    settled_cut w (Go p) other (inl e) = inl (e.0, ap (λ x. Done 0 (settled (bound_world w) x)) e.1)
    settled_cut w (Leave j p) other (inl e) = inl (e.0, ap (λ x. Done 0 (settled (bound_world w) x)) e.1)
    settled_cut w (Go p) other (inr e) = inr (subst (λ s. B.Apart p.state s) (sym (settled_state (bound_world w) other)) e)
    settled_cut w (Leave j p) other (inr e) = inr (subst (λ s. B.Apart p.state s) (sym (settled_state (bound_world w) other)) e)

    plain_cuts : (act : Plain V S → PlainRes V S) → ActCuts act → (N : ℕ) (operands locals : List V) (w : World S) → CutsAt res_place N (λ v n. Done 0 (settled v (act (record { operands = operands; locals = locals; state = v.state })))) w
    plain_cuts act owes N operands locals w =
        let p : Plain V S = record { operands = operands; locals = locals; state = w.state } in
        record {
          onward = λ n le. subst (λ s. B.Leads w.state s) (sym (settled_state w (act p))) (owes.leads p);
          cuts = λ fine n le. settled_cut w (act p) (act (bound_plain p)) (owes.cuts p fine);
        }

    taken_state : (e : ℕ) (w : World S) (c : Conf V S) (k : Option (Caught V S)) → (res_at (taken e k (in_world w c))).state ≡ caught_state w.state k
    taken_state e w c None = refl
    taken_state e w c (Some k) = refl

    taken_cut : (e : ℕ) (w : World S) (c : Conf V S) (k other : Option (Caught V S)) → (B.Fine (caught_state w.state k) × (other ≡ bounded_caught k)) ⊎ B.Apart (caught_state w.state k) (caught_state (B.bound w.state) other) → Cut res_place (Done 0 (taken e k (in_world w c))) (Done 0 (taken e other (in_world (bound_world w) c)))
    taken_cut e w c None other (inl eq) = inl (eq.0, ap (λ x. Done 0 (taken e x (in_world (bound_world w) c))) eq.1)
    taken_cut e w c (Some k) other (inl eq) = inl (eq.0, ap (λ x. Done 0 (taken e x (in_world (bound_world w) c))) eq.1)
    taken_cut e w c None other (inr eq) = inr (subst (λ s. B.Apart w.state s) (sym (taken_state e (bound_world w) c other)) eq)
    taken_cut e w c (Some k) other (inr eq) = inr (subst (λ s. B.Apart k.state s) (sym (taken_state e (bound_world w) c other)) eq)

    handler_cuts : (h : ℕ → S → Option (Caught V S)) → HandlerCuts h → (N e : ℕ) (c : Conf V S) (w : World S) → CutsAt res_place N (λ v n. Done 0 (taken e (h e v.state) (in_world v c))) w
    handler_cuts h owes N e c w = record {
      onward = λ n le. subst (λ s. B.Leads w.state s) (sym (taken_state e w c (h e w.state))) (owes.leads e w.state);
      cuts = λ fine n le. taken_cut e w c (h e w.state) (h e (B.bound w.state)) (owes.cuts e w.state fine);
    }

    abbrev pub PickCuts : {X : Type 0} → (Plain V S → X) → Type 0
    PickCuts pick = (p : Plain V S) → pick (bound_plain p) ≡ pick p

    abbrev pub FormCuts : {X : Type 0} → Form V S X → Type 0
    FormCuts (Flat act) = ActCuts act
    FormCuts (Guard p r h body) = HandlerCuts h
    FormCuts (InvokeBy p pick) = PickCuts pick
    FormCuts _ = Unit {0}

    abbrev pub CalleeCuts : {I : Type 0} → Option (Callee I V S) → Type 0
    CalleeCuts (Some (Host p act)) = ActCuts act
    CalleeCuts _ = Unit {0}

    form_owes : {X : Type 0} (form : Form V S X) → FormCuts form → OwesForm cutting form
    unfolding cutting
    form_owes (Flat act) h = record { leaf = λ N c w. plain_cuts act h N c.operands c.locals w }
    form_owes (Guard p r handler body) h = record { handler = λ N e c w. handler_cuts handler h N e c w }
    form_owes (InvokeBy p pick) h = record { stable = λ c w. h (plain_of (in_world w c)) }
    form_owes (Enclose p r body) h = tt
    form_owes (Repeat p r body) h = tt
    form_owes (Choose test p r first second) h = tt
    form_owes (Invoke p x) h = tt

    callee_owes : {I : Type 0} (o : Option (Callee I V S)) → CalleeCuts o → OwesCallee cutting o
    unfolding cutting
    callee_owes None h = tt
    callee_owes (Some (Own f)) h = tt
    callee_owes (Some (Host p act)) h = record { host = λ N operands w. plain_cuts act h N operands [] w }

    -- a language whose parts are bounded so
    pub cutting_owes : {I : Type 0} {F : Type 0 → Type 0} (L : Language I F V S) → ((X : Type 0) (l : F X) → FormCuts (L.layer X l)) → ((X : Type 0) (l : F X) → PickCuts (L.ready X l)) → ((x : ℕ) → CalleeCuts (L.callee x)) → Owes L cutting
    unfolding cutting
    cutting_owes L forms ready callees = record {
      forms = λ X l. form_owes (L.layer X l) (forms X l);
      ready = λ X l. record { stable = λ c w. ready X l (plain_of (in_world w c)) };
      callees = λ x. callee_owes (L.callee x) (callees x);
    }
