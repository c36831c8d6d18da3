-- Growths keep to the laws of runs: each takes an answer and is told of.
use Rattle.std.proofs.Common.{◌≡◌, ℕ, ◌+◌, ◌≤◌, Bool, true, false, ◌&&◌, if◌then◌else◌, List, [], ◌∷◌, ◌++◌, ◌⊎◌, inl, inr, Option, Some, None, refl, sym, ap, ◌∙◌, subst, append_assoc, append-nil}
use Rattle.std.proofs.lemmas.List.{append_cancel_left}
use Rattle.std.specs.List.{AllByRecursion}
use Rattle.host_kit.specs.Trace.{Mark, Grown, Begins, seen, answers, captured, cut}
use Rattle.host_kit.proofs.Marks.{begins_same, begins_append, answers-grown, captured-grown, cut-append}
use Rattle.evaluation_kit.specs.declared.jump.Jump.TheVariants.{Trap}
use Rattle.outcome_kit.specs.Code.{Leave}
use Rattle.evaluation_kit.specs.Configurations.{Plain}
use Rattle.evaluation_kit.specs.Leaves.{top}
use Rattle.evaluation_kit.proofs.Growing.{state_after, LeadsOn}
use Rattle.evaluation_kit.proofs.Invariants.{PlainAfter, Keeps}
use Rattle.evaluation_kit.proofs.Replaying.{ActReplays, free_plain, freed_plain, PastPlain}
use Rattle.evaluation_kit.proofs.Cutting.{ActCuts, bound_plain, bounded_plain}
use Rattle.meaning_new.specs.declared.val.Val.{Val}
use Rattle.meaning_new.specs.Store.{Store, State, Growth, sizes, is_granted, settled_growth, growth_or_trap, on_growth}
use Rattle.meaning_new.proofs.Even.{NotFull, redial, all_append}
use Rattle.meaning_new.proofs.Bounds.{order, roomy, Roomy, clean, Clean, counted, Counted, answering, bounding, Open, Parted, any_sizes, any_room}

no_more : (xs ys : List Bool) → xs ≡ xs ++ ys → ys ≡ []
no_more xs ys e = sym (append_cancel_left xs [] ys (append-nil xs ∙ e))

-- an answer that a growth gave grants it again
granted_again : (fits b : Bool) → (fits && ((fits && b) && true)) ≡ (fits && b)
granted_again true true = refl
granted_again true false = refl
granted_again false b = refl

-- the sizes after a growth
abbrev after : Bool → Growth → Store → Store
after ok g s = if ok then g.larger else s

growth_leads : (p : Plain Val State) (o : Option Growth) → Begins p.state.trace (state_after (growth_or_trap p o)).trace
growth_leads p None = begins_same p.state.trace
growth_leads p (Some g) = begins_append p.state.trace (Grown (is_granted g p.state) (sizes (after (is_granted g p.state) g p.state.store)) ∷ [])

growth_roomy : (p : Plain Val State) (o : Option Growth) → Roomy p.state → PlainAfter roomy (growth_or_trap p o)
growth_roomy p None h = record { always = h; at_jump = tt }
growth_roomy p (Some g) h = record {
  room = h.room;
  clean = all_append NotFull p.state.trace (Grown (is_granted g p.state) (sizes (after (is_granted g p.state) g p.state.store))) h.clean (λ e. cc);
}

growth_clean : (p : Plain Val State) (o : Option Growth) → Clean p.state → PlainAfter clean (growth_or_trap p o)
growth_clean p None h = record { always = h; at_jump = tt }
growth_clean p (Some g) h =
    all_append NotFull p.state.trace (Grown (is_granted g p.state) (sizes (after (is_granted g p.state) g p.state.store))) h (λ e. cc)

growth_counted : (N : ℕ) (p : Plain Val State) (o : Option Growth) → Counted N p.state → PlainAfter (counted N) (growth_or_trap p o)
growth_counted N p None h = record { always = h; at_jump = tt }
growth_counted N p (Some g) h =
    let same = captured-grown p.state.trace (is_granted g p.state) (sizes (after (is_granted g p.state) g p.state.store)) in
    record { few = subst (λ k. k ≤ N) (sym same) h.few; exact = exact_grown same h.exact; room = h.room }
  where
    exact_grown : captured (p.state.trace ++ Grown (is_granted g p.state) (sizes (after (is_granted g p.state) g p.state.store)) ∷ []) ≡ captured p.state.trace → AllByRecursion NotFull p.state.trace ⊎ (captured p.state.trace ≡ N) → AllByRecursion NotFull (p.state.trace ++ Grown (is_granted g p.state) (sizes (after (is_granted g p.state) g p.state.store)) ∷ []) ⊎ (captured (p.state.trace ++ Grown (is_granted g p.state) (sizes (after (is_granted g p.state) g p.state.store)) ∷ []) ≡ N)
    exact_grown same (inl clean) = inl (all_append NotFull p.state.trace (Grown (is_granted g p.state) (sizes (after (is_granted g p.state) g p.state.store))) clean (λ e. cc))
    exact_grown same (inr full) = inr (same ∙ full)

growth_again : (p : Plain Val State) (o : Option Growth) (a t : List Bool) → answers (seen (state_after (growth_or_trap p o)).trace) ≡ answers (seen p.state.trace) ++ a → (growth_or_trap (free_plain answering (a ++ t) p) o ≡ freed_plain answering t (growth_or_trap p o)) ⊎ PastPlain answering (growth_or_trap p o) (growth_or_trap (free_plain answering (a ++ t) p) o)
growth_again p None a t e = inl (ap (λ l. Leave Trap (free_plain answering (l ++ t) p)) (no_more (answers (seen p.state.trace)) a e))
growth_again p (Some g) a t e =
    let ok = is_granted g p.state in
    let told : a ≡ ok ∷ [] = append_cancel_left (answers (seen p.state.trace)) a (ok ∷ []) (sym e ∙ answers-grown p.state.trace ok (sizes (after ok g p.state.store))) in
    let again : is_granted g (redial (ok ∷ t) any_sizes any_room p.state) ≡ ok = granted_again g.fits (top true p.state.grows && p.state.permits (sizes g.larger)) in
    inl (ap (λ l. growth_or_trap (free_plain answering (l ++ t) p) (Some g)) told ∙ ap (λ b. settled_growth b g (free_plain answering (ok ∷ t) p)) again)

-- a growth with bounds and without: the same, or permitted without and refused with them
grants : (fits b x k : Bool) → x ≡ true → (((fits && (b && x)) ≡ (fits && (b && k))) × ((fits && (b && x)) ≡ true → k ≡ true)) ⊎ (((fits && (b && x)) ≡ true) × ((fits && (b && k)) ≡ false) × (k ≡ false))
grants false b x k e = inl (refl, λ h. absurd cc)
grants true false x k e = inl (refl, λ h. absurd cc)
grants true true x true e = inl (e, λ h. refl)
grants true true x false e = inr (e, refl, refl)

module _ (permits : List ℕ → Bool) (room : ℕ → Bool) where
  -- a mark that is not refused behind a trace that is whole
  whole_grown : (ok : Bool) (g : Growth) (s : State) → (ok ≡ true → permits (sizes g.larger) ≡ true) → cut permits room 0 s.trace ≡ s.trace → cut permits room 0 (s.trace ++ Grown ok (sizes (after ok g s.store)) ∷ []) ≡ s.trace ++ Grown ok (sizes (after ok g s.store)) ∷ []
  whole_grown true g s k h =
      cut-append permits room 0 s.trace (Grown true (sizes g.larger) ∷ []) h
      ∙ ap (λ b. s.trace ++ (if b then Grown true (sizes g.larger) ∷ [] else [])) (k refl)
  whole_grown false g s k h = cut-append permits room 0 s.trace (Grown false (sizes s.store) ∷ []) h

  parted_grown : (g : Growth) (s : State) (last : Mark) → permits (sizes g.larger) ≡ false → cut permits room 0 s.trace ≡ s.trace → (more : List Mark) → Begins (cut permits room 0 ((s.trace ++ Grown true (sizes g.larger) ∷ []) ++ more)) (s.trace ++ last ∷ [])
  parted_grown g s last k h more =
      let cut_there = ap (cut permits room 0) (append_assoc s.trace (Grown true (sizes g.larger) ∷ []) more)
      ∙ cut-append permits room 0 s.trace (Grown true (sizes g.larger) ∷ more) h
      ∙ ap (λ b. s.trace ++ (if b then Grown true (sizes g.larger) ∷ cut permits room (0 + captured s.trace) more else [])) k
      ∙ append-nil s.trace in
      subst (λ l. Begins l (s.trace ++ last ∷ [])) (sym cut_there) (begins_append s.trace (last ∷ []))

  growth_cuts : (p : Plain Val State) (o : Option Growth) → Open permits room p.state → (Open permits room (state_after (growth_or_trap p o)) × (growth_or_trap (bound_plain (bounding permits room) p) o ≡ bounded_plain (bounding permits room) (growth_or_trap p o))) ⊎ Parted permits room (state_after (growth_or_trap p o)) (state_after (growth_or_trap (bound_plain (bounding permits room) p) o))
  growth_cuts p None fine = inl (fine, refl)
  growth_cuts p (Some g) fine = by_case (is_granted g p.state) (is_granted g (redial p.state.grows permits room p.state)) (grants g.fits (top true p.state.grows) (p.state.permits (sizes g.larger)) (permits (sizes g.larger)) (fine.sizes (sizes g.larger)))
    where
      by_case : (ok bounded : Bool) → ((ok ≡ bounded) × (ok ≡ true → permits (sizes g.larger) ≡ true)) ⊎ ((ok ≡ true) × (bounded ≡ false) × (permits (sizes g.larger) ≡ false)) → (Open permits room (state_after (settled_growth ok g p)) × (settled_growth bounded g (bound_plain (bounding permits room) p) ≡ bounded_plain (bounding permits room) (settled_growth ok g p))) ⊎ Parted permits room (state_after (settled_growth ok g p)) (state_after (settled_growth bounded g (bound_plain (bounding permits room) p)))
      by_case ok bounded (inl e) = inl (record { sizes = fine.sizes; captures = fine.captures; whole = whole_grown ok g p.state e.1 fine.whole }, ap (λ b. settled_growth b g (bound_plain (bounding permits room) p)) (sym e.0))
      by_case ok bounded (inr e) = inr (subst (λ b. Parted permits room (state_after (settled_growth b g p)) (state_after (settled_growth bounded g (bound_plain (bounding permits room) p)))) (sym e.0) (record { front = parted_grown g p.state (Grown bounded (sizes (after bounded g p.state.store))) e.2 fine.whole }))

module _ (f : List Val → Store → Option Growth) where
  pub grow_leads : LeadsOn order (on_growth f)
  grow_leads p = growth_leads p (f p.operands p.state.store)

  pub grow_roomy : Keeps roomy (on_growth f)
  grow_roomy p h = growth_roomy p (f p.operands p.state.store) h

  pub grow_clean : Keeps clean (on_growth f)
  grow_clean p h = growth_clean p (f p.operands p.state.store) h

  pub grow_counted : (N : ℕ) → Keeps (counted N) (on_growth f)
  grow_counted N p h = growth_counted N p (f p.operands p.state.store) h

  pub grow_replays : ActReplays answering (on_growth f)
  grow_replays = record { leads = grow_leads; again = λ p a t. growth_again p (f p.operands p.state.store) a t }

  pub grow_cuts : (permits : List ℕ → Bool) (room : ℕ → Bool) → ActCuts (bounding permits room) (on_growth f)
  grow_cuts permits room = record { leads = grow_leads; cuts = λ p fine. growth_cuts permits room p (f p.operands p.state.store) fine }
