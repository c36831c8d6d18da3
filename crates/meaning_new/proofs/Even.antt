-- What instructions and hosts do evenly: they tell events alone, touch no bound and no answer, and do the same within
-- other bounds.
use Rattle.std.proofs.Common.{◌≡◌, ℕ, Bool, List, [], ◌∷◌, ◌++◌, refl, sym, ap, ◌∙◌, subst}
use Rattle.std.specs.List.{AllByRecursion}
use Rattle.host_kit.specs.Trace.{Mark, Shows, Begins, seen, answers, captured, cut}
use Rattle.host_kit.proofs.Marks.{begins_same, begins_append, begins_trans, answers-shown, captured-shown, cut-append}
use Rattle.host_kit.specs.declared.event.Event.{Event}
use Rattle.host_kit.specs.declared.event.Event.TheVariants as events
use Rattle.evaluation_kit.specs.declared.jump.Jump.TheVariants.{Full}
use Rattle.outcome_kit.specs.Code.{Go, Leave}
use Rattle.evaluation_kit.specs.Configurations.{Plain, PlainRes}
use Rattle.evaluation_kit.proofs.Growing.{state_after}
use Rattle.meaning_new.specs.declared.val.Val.{Val}
use Rattle.meaning_new.specs.Store.{State, tell}

-- the mark does not show a full store of captures
abbrev pub NotFull : Mark → Type 0
NotFull m = m ≡ Shows events.Full → ⊥

-- the state with other answers to growths, and within other bounds
abbrev pub redial : List Bool → (List ℕ → Bool) → (ℕ → Bool) → State → State
redial g permits room s = record s { grows = g; permits = permits; room = room }

-- what is told between the states are events, and neither answers nor bounds change
pub record Even (s t : State) : Type 0 where
  pub begins : Begins s.trace t.trace
  pub told : answers (seen t.trace) ≡ answers (seen s.trace)
  pub captures : captured t.trace ≡ captured s.trace
  pub whole : (permits : List ℕ → Bool) (room : ℕ → Bool) → cut permits room 0 s.trace ≡ s.trace → cut permits room 0 t.trace ≡ t.trace
  pub not_full : AllByRecursion NotFull s.trace → AllByRecursion NotFull t.trace
  pub grows : t.grows ≡ s.grows
  pub permits : t.permits ≡ s.permits
  pub room : t.room ≡ s.room

-- a state of which only the store or the replies differ
pub even_same : (s t : State) → t.trace ≡ s.trace → t.grows ≡ s.grows → t.permits ≡ s.permits → t.room ≡ s.room → Even s t
even_same s t e grows permits room = record {
  begins = subst (λ l. Begins s.trace l) (sym e) (begins_same s.trace);
  told = ap (λ l. answers (seen l)) e;
  captures = ap captured e;
  whole = λ p r h. subst (λ l. cut p r 0 l ≡ l) (sym e) h;
  not_full = subst (λ l. AllByRecursion NotFull l) (sym e);
  grows = grows;
  permits = permits;
  room = room;
}

pub even_itself : (s : State) → Even s s
even_itself s = even_same s s refl refl refl refl

pub even_trans : (a b c : State) → Even a b → Even b c → Even a c
even_trans a b c f g = record {
  begins = begins_trans a.trace b.trace c.trace f.begins g.begins;
  told = g.told ∙ f.told;
  captures = g.captures ∙ f.captures;
  whole = λ p r h. g.whole p r (f.whole p r h);
  not_full = λ h. g.not_full (f.not_full h);
  grows = g.grows ∙ f.grows;
  permits = g.permits ∙ f.permits;
  room = g.room ∙ f.room;
}

pub all_append : {A : Type 0} (P : A → Type 0) (xs : List A) (x : A) → AllByRecursion P xs → P x → AllByRecursion P (xs ++ x ∷ [])
all_append P [] x h p = (p, tt)
all_append P (y ∷ xs) x h p = (h.0, all_append P xs x h.1 p)

pub even_tell : (e : Event) (s : State) → (Shows e ≡ Shows events.Full → ⊥) → Even s (tell e s)
even_tell e s other = record {
  begins = begins_append s.trace (Shows e ∷ []);
  told = answers-shown s.trace e;
  captures = captured-shown s.trace e;
  whole = λ p r h. cut-append p r 0 s.trace (Shows e ∷ []) h;
  not_full = λ h. all_append NotFull s.trace (Shows e) h other;
  grows = refl;
  permits = refl;
  room = refl;
}

-- plain instructions
abbrev pub redial_plain : List Bool → (List ℕ → Bool) → (ℕ → Bool) → Plain Val State → Plain Val State
redial_plain g permits room p = record p { state = redial g permits room p.state }

abbrev pub redial_res : List Bool → (List ℕ → Bool) → (ℕ → Bool) → PlainRes Val State → PlainRes Val State
redial_res g permits room (Go p) = Go (redial_plain g permits room p)
redial_res g permits room (Leave j p) = Leave j (redial_plain g permits room p)

abbrev pub LeavesNotFull : PlainRes Val State → Type 0
LeavesNotFull (Go p) = Unit {0}
LeavesNotFull (Leave j p) = j ≡ Full → ⊥

pub record EvenAct (act : Plain Val State → PlainRes Val State) : Type 0 where
  pub even : (p : Plain Val State) → Even p.state (state_after (act p))
  pub redialed : (g : List Bool) (permits : List ℕ → Bool) (room : ℕ → Bool) (p : Plain Val State) → act (redial_plain g permits room p) ≡ redial_res g permits room (act p)
  pub not_full : (p : Plain Val State) → LeavesNotFull (act p)

-- one result of an instruction, here and within other bounds
pub record EvenHere (s : State) (here : PlainRes Val State) (there : List Bool → (List ℕ → Bool) → (ℕ → Bool) → PlainRes Val State) : Type 0 where
  pub even : Even s (state_after here)
  pub redialed : (g : List Bool) (permits : List ℕ → Bool) (room : ℕ → Bool) → there g permits room ≡ redial_res g permits room here
  pub not_full : LeavesNotFull here

pub even_act : (act : Plain Val State → PlainRes Val State) → ((p : Plain Val State) → EvenHere p.state (act p) (λ g permits room. act (redial_plain g permits room p))) → EvenAct act
even_act act h = record { even = λ p. (h p).even; redialed = λ g permits room p. (h p).redialed g permits room; not_full = λ p. (h p).not_full }
