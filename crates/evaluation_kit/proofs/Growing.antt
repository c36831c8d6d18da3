-- With more turns a run only goes on: what was done stays, and what was halted is further on. And a run leads on from
-- where it begins.
use Rattle.std.proofs.Common.{◌≡◌, ℕ, zero, suc, ◌-◌, ◌≤◌, [], Option, Some, None, refl, sym, ap, subst, arith, le_refl, le_trans}
use Rattle.outcome_kit.specs.Outcome.{Out, Done, Halt, after, bind, turn, place_of}
use Rattle.outcome_kit.specs.Code.{Go, Leave}
use Rattle.outcome_kit.proofs.Growing.{Order, Extends}
use Rattle.evaluation_kit.specs.Configurations.{World, Conf, Plain, PlainRes, in_world, plain_of, deeper, settled}
use Rattle.evaluation_kit.specs.Control.{Callee, Own, Host, Caught, taken}
use Rattle.evaluation_kit.specs.Forms.{Form, Flat, Enclose, Repeat, Choose, Guard, Invoke, InvokeBy}
use Rattle.evaluation_kit.specs.Languages.{Language}
use Rattle.evaluation_kit.proofs.Closure.{Place, Closed, res_at}
use Rattle.evaluation_kit.proofs.Whole.{OwesForm, OwesCallee, Owes}

-- the state at the end of a plain instruction
abbrev pub state_after : {V S : Type 0} → PlainRes V S → S
state_after (Go p) = p.state
state_after (Leave j p) = p.state

module _ {S : Type 0} (order : Order S) where
  -- a world leads to another: its state does, and no fewer calls were open
  pub record Leads (w v : World S) : Type 0 where
    pub state : order.Leads w.state v.state
    pub deepest : w.deepest ≤ v.deepest

  pub leads_same : (w : World S) → Leads w w
  leads_same w = record { state = order.stays w.state; deepest = le_refl w.deepest }

  pub leads_trans : (a b c : World S) → Leads a b → Leads b c → Leads a c
  leads_trans a b c f g = record { state = order.joins a.state b.state c.state f.state g.state; deepest = le_trans f.deepest g.deepest }

  pub leads_deeper : (open_calls : ℕ) (w : World S) → Leads w (deeper open_calls w)
  leads_deeper open_calls w = record { state = order.stays w.state; deepest = omega arith }

  abbrev pub worlds : Order (World S)
  worlds = record { Leads = Leads; stays = leads_same; joins = leads_trans }

  -- a run from a world within N turns
  pub record GrowsAt {R : Type 0} (at : R → World S) (N : ℕ) (w : World S) (f : ℕ → Out (World S) R) : Type 0 where
    pub onward : (n : ℕ) → n ≤ N → Leads w (place_of at (f n))
    pub extends : (n k : ℕ) → n ≤ k → k ≤ N → Extends worlds at (f n) (f k)

  place_after : {R : Type 0} (at : R → World S) (a : World S) (u : ℕ) (o : Out (World S) R) → Leads a (place_of at o) → Leads a (place_of at (after u o))
  place_after at a u (Done v r) l = l
  place_after at a u (Halt h) l = l

  extends_after : {R : Type 0} (at : R → World S) (u : ℕ) (o longer : Out (World S) R) → Extends worlds at o longer → Extends worlds at (after u o) (after u longer)
  extends_after at u (Done v r) longer e = ap (after u) e
  extends_after at u (Halt h) longer e = place_after at h u longer e

  pub done_grows : {R : Type 0} (pl : Place S R) (N : ℕ) (r : R) (w : World S) → GrowsAt pl.at N w (λ n. Done 0 (pl.put w r))
  done_grows pl N r w = record {
    onward = λ n le. subst (λ v. Leads w v) (sym (pl.at_put w r)) (leads_same w);
    extends = λ n k le le'. refl;
  }

  start_onward : {R : Type 0} (at : R → World S) (w : World S) (f : ℕ → Out (World S) R) (n : ℕ) → n ≤ 0 → Leads w (place_of at (turn n w f))
  start_onward at w f zero le = leads_same w
  start_onward at w f (suc n) le = let no : ⊥ = omega arith in absurd no

  start_extends : {R : Type 0} (at : R → World S) (w : World S) (f : ℕ → Out (World S) R) (n k : ℕ) → n ≤ k → k ≤ 0 → Extends worlds at (turn n w f) (turn k w f)
  start_extends at w f zero zero le le' = leads_same w
  start_extends at w f n (suc k) le le' = let no : ⊥ = omega arith in absurd no
  start_extends at w f (suc n) zero le le' = let no : ⊥ = omega arith in absurd no

  pub start_grows : {R : Type 0} (at : R → World S) (w : World S) (f : ℕ → Out (World S) R) → GrowsAt at 0 w (λ n. turn n w f)
  start_grows at w f = record { onward = start_onward at w f; extends = start_extends at w f }

  module _ {R : Type 0} (at : R → World S) (N : ℕ) (w : World S) (f : ℕ → Out (World S) R) (g : GrowsAt at N w f) where
    turn_onward : (n : ℕ) → n ≤ suc N → Leads w (place_of at (turn n w f))
    turn_onward zero le = leads_same w
    turn_onward (suc n) le = let less : n ≤ N = omega arith in place_after at w 1 (f n) (g.onward n less)

    turn_extends : (n k : ℕ) → n ≤ k → k ≤ suc N → Extends worlds at (turn n w f) (turn k w f)
    turn_extends zero k le le' = turn_onward k le'
    turn_extends (suc n) zero le le' = let no : ⊥ = omega arith in absurd no
    turn_extends (suc n) (suc k) le le' =
        let less : n ≤ k = omega arith in
        let less' : k ≤ N = omega arith in
        extends_after at 1 (f n) (f k) (g.extends n k less less')

    pub turn_grows : GrowsAt at (suc N) w (λ n. turn n w f)
    turn_grows = record { onward = turn_onward; extends = turn_extends }

  module _ {R R' : Type 0} (at : R → World S) (at' : R' → World S) (N : ℕ) (k : R → ℕ → Out (World S) R') (next : (r : R) → GrowsAt at' N (at r) (k r)) where
    bind_onward : (w : World S) (n : ℕ) (o : Out (World S) R) → n ≤ N → Leads w (place_of at o) → Leads w (place_of at' (bind n o k))
    bind_onward w n (Done u r) le l =
        let less : n - u ≤ N = omega arith in
        place_after at' w u (k r (n - u)) (leads_trans w (at r) _ l ((next r).onward (n - u) less))
    bind_onward w n (Halt h) le l = l

    bind_extends : (n i : ℕ) (o longer : Out (World S) R) → n ≤ i → i ≤ N → Extends worlds at o longer → Extends worlds at' (bind n o k) (bind i longer k)
    bind_extends n i (Done u r) longer le le' e =
        let less : n - u ≤ i - u = omega arith in
        let less' : i - u ≤ N = omega arith in
        let more = extends_after at' u (k r (n - u)) (k r (i - u)) ((next r).extends (n - u) (i - u) less less') in
        subst (λ o. Extends worlds at' (after u (k r (n - u))) (bind i o k)) (sym e) more
    bind_extends n i (Halt h) longer le le' e = bind_onward h i longer le' e

    pub bind_grows : (w : World S) (f : ℕ → Out (World S) R) → GrowsAt at N w f → GrowsAt at' N w (λ n. bind n (f n) k)
    bind_grows w f g = record {
      onward = λ n le. bind_onward w n (f n) le (g.onward n le);
      extends = λ n i le le'. bind_extends n i (f n) (f i) le le' (g.extends n i le le');
    }

  -- a run that goes on from the world of a result
  pub resumed : {R R' : Type 0} (pl : Place S R) (at' : R' → World S) (N : ℕ) (k : R → ℕ → Out (World S) R') → ((r : R) (w : World S) → GrowsAt at' N w (λ n. k (pl.put w r) n)) → (r : R) → GrowsAt at' N (pl.at r) (k r)
  resumed pl at' N k next r = subst (λ x. GrowsAt at' N (pl.at r) (λ n. k x n)) (pl.put_at r) (next r (pl.at r))

  pub less_grows : {R : Type 0} (at : R → World S) (N : ℕ) (w : World S) (f : ℕ → Out (World S) R) → GrowsAt at (suc N) w f → GrowsAt at N w f
  less_grows at N w f g = record {
    onward = λ n le. let more : n ≤ suc N = omega arith in g.onward n more;
    extends = λ n k le le'. let more : k ≤ suc N = omega arith in g.extends n k le more;
  }

  pub deeper_grows : {R : Type 0} (at : R → World S) (N d : ℕ) (w : World S) (f : ℕ → Out (World S) R) → GrowsAt at N (deeper d w) f → GrowsAt at N w f
  deeper_grows at N d w f g = record {
    onward = λ n le. leads_trans w (deeper d w) _ (leads_deeper d w) (g.onward n le);
    extends = g.extends;
  }

  pub alike_grows : {R : Type 0} (at : R → World S) (N : ℕ) (w : World S) (f g : ℕ → Out (World S) R) → ((n : ℕ) → f n ≡ g n) → GrowsAt at N w f → GrowsAt at N w g
  alike_grows at N w f g e h = record {
    onward = λ n le. subst (λ o. Leads w (place_of at o)) (e n) (h.onward n le);
    extends = λ n k le le'. subst (λ o. Extends worlds at o (g k)) (e n) (subst (λ o. Extends worlds at (f n) o) (e k) (h.extends n k le le'));
  }

  -- runs lead on, and further with more turns
  unfoldable pub growing : Closed S
  growing = record {
    Holds = λ R pl N j m m'. (w : World S) → GrowsAt pl.at N w (m w);
    Stable = λ X g. Unit {0};
    done = λ R pl N r w. done_grows pl N r w;
    bind = λ R R' pl pl' N j m m' k k' h next w. bind_grows pl.at pl'.at N k (resumed pl pl'.at N k next) w (m w) (h w);
    start = λ R pl m m' w. start_grows pl.at w (m w);
    turn = λ R pl N m m' h w. turn_grows pl.at N w (m w) (h w);
    less = λ R pl N j m m' h w. less_grows pl.at N w (m w) (h w);
    lighter = λ R pl N j i m m' e h. h;
    deeper = λ R pl N m m' d h w. deeper_grows pl.at N d w (m (deeper d w)) (h (deeper d w));
    reads = λ X R pl N g m m' s h w. h (g w) w;
    alike = λ R pl N j m m' l l' h e e' w. alike_grows pl.at N w (m w) (l w) (e w) (h w);
  }

  -- what this asks of a form and of a host function: that states lead on
  abbrev pub LeadsOn : {V : Type 0} → (Plain V S → PlainRes V S) → Type 0
  LeadsOn {V} act = (p : Plain V S) → order.Leads p.state (state_after (act p))

  abbrev pub CaughtLeads : {V : Type 0} → S → Option (Caught V S) → Type 0
  CaughtLeads s None = Unit {0}
  CaughtLeads s (Some k) = order.Leads s k.state

  abbrev pub FormLeads : {V X : Type 0} → Form V S X → Type 0
  FormLeads (Flat act) = LeadsOn act
  FormLeads (Guard p r h body) = (e : ℕ) (s : S) → CaughtLeads s (h e s)
  FormLeads _ = Unit {0}

  abbrev pub CalleeLeads : {I V : Type 0} → Option (Callee I V S) → Type 0
  CalleeLeads (Some (Host p act)) = LeadsOn act
  CalleeLeads _ = Unit {0}

  settled_leads : {V : Type 0} (w : World S) (r : PlainRes V S) → order.Leads w.state (state_after r) → Leads w (res_at (settled w r))
  settled_leads w (Go p) l = record { state = l; deepest = le_refl w.deepest }
  settled_leads w (Leave j p) l = record { state = l; deepest = le_refl w.deepest }

  pub at_once : {R : Type 0} (at : R → World S) (N : ℕ) (w : World S) (r : R) → Leads w (at r) → GrowsAt at N w (λ n. Done 0 r)
  at_once at N w r l = record { onward = λ n le. l; extends = λ n k le le'. refl }

  taken_leads : {V : Type 0} (e : ℕ) (w : World S) (c : Conf V S) (k : Option (Caught V S)) → CaughtLeads w.state k → Leads w (res_at (taken e k (record c { world = w })))
  taken_leads e w c None l = leads_same w
  taken_leads e w c (Some k) l = record { state = l; deepest = le_refl w.deepest }

  form_owes : {V X : Type 0} (form : Form V S X) → FormLeads form → OwesForm growing form
  unfolding growing
  form_owes (Flat act) l = record {
    leaf = λ N c w. let p = plain_of (in_world w c) in at_once res_at N w _ (settled_leads w (act p) (l p));
  }
  form_owes (Guard p r h body) l = record { handler = λ N e c w. at_once res_at N w _ (taken_leads e w c (h e w.state) (l e w.state)) }
  form_owes (InvokeBy p pick) l = record { stable = λ c. tt }
  form_owes (Enclose p r body) l = tt
  form_owes (Repeat p r body) l = tt
  form_owes (Choose test p r first second) l = tt
  form_owes (Invoke p x) l = tt

  callee_owes : {I V : Type 0} (o : Option (Callee I V S)) → CalleeLeads o → OwesCallee growing o
  unfolding growing
  callee_owes None l = tt
  callee_owes (Some (Own f)) l = tt
  callee_owes {V = V} (Some (Host p act)) l = record {
    host = λ N operands w.
        let seen : Plain V S = record { operands = operands; locals = []; state = w.state } in
        at_once res_at N w _ (settled_leads w (act seen) (l seen));
  }

  -- a language whose instructions and host functions lead on
  pub growing_owes : {I : Type 0} {F : Type 0 → Type 0} {V : Type 0} (L : Language I F V S) → ((X : Type 0) (l : F X) → FormLeads (L.layer X l)) → ((x : ℕ) → CalleeLeads (L.callee x)) → Owes L growing
  unfolding growing
  growing_owes L forms callees = record {
    forms = λ X l. form_owes (L.layer X l) (forms X l);
    ready = λ X l. record { stable = λ c. tt };
    callees = λ x. callee_owes (L.callee x) (callees x);
  }
