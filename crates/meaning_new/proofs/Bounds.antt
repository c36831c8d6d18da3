-- The laws of runs as the kit asks for them: which states lead to which, what every state keeps, where a run's own answers
-- stand, and where its bounds do. And what even instructions give to each.
use Rattle.std.proofs.Common.{◌≡◌, ℕ, ◌≤◌, Bool, true, List, [], ◌∷◌, ◌++◌, map, refl, sym, ap, ◌∙◌, subst, append_assoc, ◌⊎◌, inl, inr}
use Rattle.std.specs.Prelude.{nat_lt}
use Rattle.std.specs.List.{AllByRecursion}
use Rattle.host_kit.specs.Trace.{Mark, Shows, Captured, Begins, seen, answers, captured, cut}
use Rattle.host_kit.proofs.Marks.{begins_same, begins_trans, begins_answers}
use Rattle.host_kit.specs.declared.event.Event.{Event}
use Rattle.host_kit.specs.declared.event.Event.TheVariants as events
use Rattle.evaluation_kit.specs.declared.jump.Jump.{Jump}
use Rattle.evaluation_kit.specs.declared.jump.Jump.TheVariants.{Full}
use Rattle.outcome_kit.specs.Code.{Go, Leave}
use Rattle.outcome_kit.proofs.Growing.{Order}
use Rattle.evaluation_kit.specs.Configurations.{Plain, PlainRes}
use Rattle.evaluation_kit.proofs.Growing.{state_after, LeadsOn}
use Rattle.evaluation_kit.proofs.Invariants.{Kept, PlainAfter, Keeps}
use Rattle.evaluation_kit.proofs.Replaying.{Answering, ActReplays, untouched}
use Rattle.evaluation_kit.proofs.Cutting.{Bounding, ActCuts, bounded_plain}
use Rattle.meaning_new.specs.declared.val.Val.{Val}
use Rattle.meaning_new.specs.Store.{State}
use Rattle.meaning_new.proofs.Even.{NotFull, redial, redial_plain, redial_res, Even, EvenAct, LeavesNotFull}

abbrev pub any_sizes : List ℕ → Bool
any_sizes sizes = true

abbrev pub any_room : ℕ → Bool
any_room k = true

-- a state leads to another: the trace goes on
abbrev pub order : Order State
order = record {
  Leads = λ s t. Begins s.trace t.trace;
  stays = λ s. begins_same s.trace;
  joins = λ a b c. begins_trans a.trace b.trace c.trace;
}

-- there is always room, and no trace shows a full store: code never leaves by Full
abbrev pub NeverFull : Jump → Type 0
NeverFull Full = ⊥
NeverFull j = Unit {0}

pub record Roomy (s : State) : Type 0 where
  pub room : (k : ℕ) → s.room k ≡ true
  pub clean : AllByRecursion NotFull s.trace

abbrev pub roomy : Kept State
roomy = record { Always = Roomy; At = λ j s. NeverFull j; trap = λ s h. tt; stuck = λ s h. tt; branch = λ k i s h. tt }

-- no trace of code shows a full store, within any bounds: that is told by the host, when Full left the code
abbrev pub Clean : State → Type 0
Clean s = AllByRecursion NotFull s.trace

abbrev pub clean : Kept State
clean = record { Always = Clean; At = λ j s. Unit {0}; trap = λ s h. tt; stuck = λ s h. tt; branch = λ k i s h. tt }

-- there is room for N captures: no more are made, and code leaves by Full after exactly as many
abbrev pub AtFull : ℕ → Jump → State → Type 0
AtFull N Full s = captured s.trace ≡ N
AtFull N j s = Unit {0}

pub record Counted (N : ℕ) (s : State) : Type 0 where
  pub few : captured s.trace ≤ N
  -- a full store is shown after exactly N
  pub exact : AllByRecursion NotFull s.trace ⊎ (captured s.trace ≡ N)
  pub room : (k : ℕ) → s.room k ≡ nat_lt k N

abbrev pub counted : ℕ → Kept State
counted N = record { Always = Counted N; At = AtFull N; trap = λ s h. tt; stuck = λ s h. tt; branch = λ k i s h. tt }

-- a bounded run stopped with Full, and the free run goes on with that capture
pub record Beyond (s t : State) : Type 0 where
  pub before : List Mark
  pub fulls : List Event
  pub all_full : AllByRecursion (λ e. e ≡ events.Full) fulls
  pub stopped : s.trace ≡ before ++ map Shows fulls
  pub further : Begins (before ++ Captured ∷ []) t.trace

abbrev pub answering : Answering State
answering = record {
  told = λ s. answers (seen s.trace);
  free = λ g s. redial g any_sizes any_room s;
  Beyond = Beyond;
  Leads = λ s t. Begins s.trace t.trace;
  stays = λ s. begins_same s.trace;
  joins = λ a b c. begins_trans a.trace b.trace c.trace;
  tells = λ a b l. let more = begins_answers a.trace b.trace l in (more.0, sym more.1);
  beyond_stays = λ s a b p l. record {
    before = p.before;
    fulls = p.fulls;
    all_full = p.all_full;
    stopped = p.stopped;
    further = begins_trans (p.before ++ Captured ∷ []) a.trace b.trace p.further l;
  };
}

-- a run without bounds of which nothing was refused so far, and one that has parted from its bounded run
pub record Open (permits : List ℕ → Bool) (room : ℕ → Bool) (s : State) : Type 0 where
  pub sizes : (l : List ℕ) → s.permits l ≡ true
  pub captures : (k : ℕ) → s.room k ≡ true
  pub whole : cut permits room 0 s.trace ≡ s.trace

pub record Parted (permits : List ℕ → Bool) (room : ℕ → Bool) (s t : State) : Type 0 where
  pub front : (more : List Mark) → Begins (cut permits room 0 (s.trace ++ more)) t.trace

pub parted_stays : (permits : List ℕ → Bool) (room : ℕ → Bool) (s t a b : State) → Parted permits room s t → Begins s.trace a.trace → Begins t.trace b.trace → Parted permits room a b
parted_stays permits room s t a b p l l' = record {
  front = λ more.
      let same : cut permits room 0 (s.trace ++ (l.0 ++ more)) ≡ cut permits room 0 (a.trace ++ more) = ap (cut permits room 0) (sym (append_assoc s.trace l.0 more) ∙ ap (λ x. x ++ more) l.1) in
      subst (λ x. Begins x b.trace) same (begins_trans (cut permits room 0 (s.trace ++ (l.0 ++ more))) t.trace b.trace (p.front (l.0 ++ more)) l');
}

abbrev pub bounding : (List ℕ → Bool) → (ℕ → Bool) → Bounding State
bounding permits room = record {
  Leads = λ s t. Begins s.trace t.trace;
  stays = λ s. begins_same s.trace;
  joins = λ a b c. begins_trans a.trace b.trace c.trace;
  bound = λ s. redial s.grows permits room s;
  Fine = Open permits room;
  Apart = Parted permits room;
  apart_stays = parted_stays permits room;
}

-- what holds of a state holds of one to which it leads evenly
pub roomy_even : (s t : State) → Even s t → Roomy s → Roomy t
roomy_even s t e h = record { room = λ k. ap (λ f. f k) e.room ∙ h.room k; clean = e.not_full h.clean }

pub counted_even : (N : ℕ) (s t : State) → Even s t → Counted N s → Counted N t
counted_even N s t e h = record {
  few = subst (λ k. k ≤ N) (sym e.captures) h.few;
  exact = exact_even h.exact;
  room = λ k. ap (λ f. f k) e.room ∙ h.room k;
}
  where
    exact_even : AllByRecursion NotFull s.trace ⊎ (captured s.trace ≡ N) → AllByRecursion NotFull t.trace ⊎ (captured t.trace ≡ N)
    exact_even (inl clean) = inl (e.not_full clean)
    exact_even (inr same) = inr (e.captures ∙ same)

pub open_even : (permits : List ℕ → Bool) (room : ℕ → Bool) (s t : State) → Even s t → Open permits room s → Open permits room t
open_even permits room s t e h = record {
  sizes = λ l. ap (λ f. f l) e.permits ∙ h.sizes l;
  captures = λ k. ap (λ f. f k) e.room ∙ h.captures k;
  whole = e.whole permits room h.whole;
}

pub not_full_at : (j : Jump) → (j ≡ Full → ⊥) → NeverFull j
not_full_at Full h = h refl
not_full_at j h = tt

pub not_full_count : (N : ℕ) (j : Jump) (s : State) → (j ≡ Full → ⊥) → AtFull N j s
not_full_count N Full s h = absurd (h refl)
not_full_count N j s h = tt

roomy_after : (s : State) (r : PlainRes Val State) → Even s (state_after r) → LeavesNotFull r → Roomy s → PlainAfter roomy r
roomy_after s (Go p) e n h = roomy_even s p.state e h
roomy_after s (Leave j p) e n h = record { always = roomy_even s p.state e h; at_jump = not_full_at j n }

clean_after : (s : State) (r : PlainRes Val State) → Even s (state_after r) → Clean s → PlainAfter clean r
clean_after s (Go p) e h = e.not_full h
clean_after s (Leave j p) e h = record { always = e.not_full h; at_jump = tt }

counted_after : (N : ℕ) (s : State) (r : PlainRes Val State) → Even s (state_after r) → LeavesNotFull r → Counted N s → PlainAfter (counted N) r
counted_after N s (Go p) e n h = counted_even N s p.state e h
counted_after N s (Leave j p) e n h = record { always = counted_even N s p.state e h; at_jump = not_full_count N j p.state n }

pub bounded_redial : (permits : List ℕ → Bool) (room : ℕ → Bool) (g : List Bool) (r : PlainRes Val State) → (state_after r).grows ≡ g → redial_res g permits room r ≡ bounded_plain (bounding permits room) r
bounded_redial permits room g (Go p) e = ap (λ l. Go (redial_plain l permits room p)) (sym e)
bounded_redial permits room g (Leave j p) e = ap (λ l. Leave j (redial_plain l permits room p)) (sym e)

-- an even instruction keeps to each law
module _ (act : Plain Val State → PlainRes Val State) (h : EvenAct act) where
  pub even_leads : LeadsOn order act
  even_leads p = (h.even p).begins

  pub even_roomy : Keeps roomy act
  even_roomy p k = roomy_after p.state (act p) (h.even p) (h.not_full p) k

  pub even_clean : Keeps clean act
  even_clean p k = clean_after p.state (act p) (h.even p) k

  pub even_counted : (N : ℕ) → Keeps (counted N) act
  even_counted N p k = counted_after N p.state (act p) (h.even p) (h.not_full p) k

  pub even_replays : ActReplays answering act
  even_replays = untouched answering act even_leads (λ p. (h.even p).told) (λ p g. h.redialed g any_sizes any_room p)

  pub even_cuts : (permits : List ℕ → Bool) (room : ℕ → Bool) → ActCuts (bounding permits room) act
  even_cuts permits room = record {
    leads = even_leads;
    cuts = λ p fine. inl (
      open_even permits room p.state (state_after (act p)) (h.even p) fine,
      h.redialed p.state.grows permits room p ∙ bounded_redial permits room p.state.grows (act p) (h.even p).grows,
    );
  }
