-- Handlers keep to the laws of runs: one that keeps a reference captures, where there is room, and else code leaves by Full.
use Rattle.std.proofs.Common.{◌≡◌, ℕ, ◌+◌, ◌≤◌, Bool, true, false, if◌then◌else◌, List, [], ◌∷◌, ◌++◌, ◌⊎◌, inl, inr, Option, Some, None, refl, sym, ap, ◌∙◌, subst, append_assoc, append-nil, arith}
use Rattle.std.proofs.lemmas.List.{append_cancel_left}
use Rattle.std.specs.Prelude.{find, slice_get, nat_lt}
use Rattle.std.specs.List.{AllByRecursion}
use Rattle.host_kit.specs.Trace.{Captured, Begins, seen, answers, captured, cut}
use Rattle.host_kit.proofs.Marks.{begins_same, begins_append, answers-captured, captured-captured, cut-append}
use Rattle.wasm_ast.specs.declared.module.immediates.Catch.{Catch}
use Rattle.wasm_ast.specs.declared.module.immediates.Catch.TheVariants as catches
use Rattle.evaluation_kit.specs.declared.jump.Jump.TheVariants.{Throw}
use Rattle.evaluation_kit.specs.Control.{Caught}
use Rattle.evaluation_kit.proofs.Growing.{CaughtLeads}
use Rattle.evaluation_kit.proofs.Invariants.{After, CaughtKeeps}
use Rattle.evaluation_kit.proofs.Replaying as replaying
use Rattle.evaluation_kit.proofs.Replaying.{HandlerReplays, freed_caught, PastCaught}
use Rattle.evaluation_kit.proofs.Cutting as cutting
use Rattle.evaluation_kit.proofs.Cutting.{HandlerCuts, bounded_caught}
use Rattle.meaning_new.specs.declared.val.Val.{Val}
use Rattle.meaning_new.specs.Store.{State, Exception, mark}
use Rattle.meaning_new.specs.Exceptions.{catch, catch_ref, caught_ref, caught_by, caught, takes, handler}
use Rattle.meaning_new.proofs.Even.{NotFull, redial, all_append}
use Rattle.meaning_new.proofs.Bounds.{order, roomy, Roomy, clean, Clean, counted, Counted, answering, bounding, Open, Parted, any_sizes, any_room}

-- what a law says of an exception that is caught, as a function of the state in which it is
abbrev Catcher : Type 0
Catcher = State → Option (Caught Val State)

-- each clause lets all pass, or catches plainly, or by reference
data Way : Type 0 where
  passes : Way
  plainly : ℕ → List Val → Way
  by_reference : ℕ → ℕ → List Val → Way

abbrev by_way : Way → Catcher
by_way passes s = None
by_way (plainly label operands) s = catch label operands s
by_way (by_reference e label operands) s = catch_ref e label operands s

way_of : Option Catch → ℕ → Exception → Way
way_of None e x = passes
way_of (Some (catches.Tag tag label)) e x = plainly label x.payload
way_of (Some (catches.TagRef tag label)) e x = by_reference e label x.payload
way_of (Some (catches.All label)) e x = plainly label []
way_of (Some (catches.AllRef label)) e x = by_reference e label []

way_is : (o : Option Catch) (e : ℕ) (x : Exception) (s : State) → by_way (way_of o e x) s ≡ caught_by o e x s
unfolding way_of
way_is None e x s = refl
way_is (Some (catches.Tag tag label)) e x s = refl
way_is (Some (catches.TagRef tag label)) e x s = refl
way_is (Some (catches.All label)) e x s = refl
way_is (Some (catches.AllRef label)) e x s = refl

way : Option Exception → List Catch → ℕ → Way
way None clauses e = passes
way (Some x) clauses e = way_of (find (takes x.tag) clauses) e x

handler_is : (o : Option Exception) (clauses : List Catch) (e : ℕ) (s : State) → by_way (way o clauses e) s ≡ caught o clauses e s
unfolding way
handler_is None clauses e s = refl
handler_is (Some x) clauses e s = way_is (find (takes x.tag) clauses) e x s

-- leading on
ref_leads : (b : Bool) (e label : ℕ) (operands : List Val) (s : State) → CaughtLeads order s (caught_ref b e label operands s)
ref_leads true e label operands s = begins_append s.trace (Captured ∷ [])
ref_leads false e label operands s = begins_same s.trace

way_leads : (w : Way) (s : State) → CaughtLeads order s (by_way w s)
way_leads passes s = tt
way_leads (plainly label operands) s = begins_same s.trace
way_leads (by_reference e label operands) s = ref_leads (s.room (captured s.trace)) e label operands s

pub handler_leads : (clauses : List Catch) (e : ℕ) (s : State) → CaughtLeads order s (handler clauses e s)
handler_leads clauses e s =
    subst (λ k. CaughtLeads order s k) (handler_is (slice_get s.store.exceptions e) clauses e s) (way_leads (way (slice_get s.store.exceptions e) clauses e) s)

-- there is always room
ref_roomy : (b : Bool) (e label : ℕ) (operands : List Val) (s : State) → b ≡ true → Roomy s → CaughtKeeps roomy (caught_ref b e label operands s)
ref_roomy true e label operands s h r = record { always = record { room = r.room; clean = all_append NotFull s.trace Captured r.clean (λ eq. cc) }; at_jump = tt }
ref_roomy false e label operands s h r = absurd cc

way_roomy : (w : Way) (s : State) → Roomy s → CaughtKeeps roomy (by_way w s)
way_roomy passes s r = tt
way_roomy (plainly label operands) s r = record { always = r; at_jump = tt }
way_roomy (by_reference e label operands) s r = ref_roomy (s.room (captured s.trace)) e label operands s (r.room (captured s.trace)) r

pub handler_roomy : (clauses : List Catch) (e : ℕ) (s : State) → After roomy (Some (Throw e)) s → CaughtKeeps roomy (handler clauses e s)
handler_roomy clauses e s h =
    subst (λ k. CaughtKeeps roomy k) (handler_is (slice_get s.store.exceptions e) clauses e s) (way_roomy (way (slice_get s.store.exceptions e) clauses e) s h.always)

-- a full store is not told by a handler
ref_clean : (b : Bool) (e label : ℕ) (operands : List Val) (s : State) → Clean s → CaughtKeeps clean (caught_ref b e label operands s)
ref_clean true e label operands s h = record { always = all_append NotFull s.trace Captured h (λ eq. cc); at_jump = tt }
ref_clean false e label operands s h = record { always = h; at_jump = tt }

way_clean : (w : Way) (s : State) → Clean s → CaughtKeeps clean (by_way w s)
way_clean passes s h = tt
way_clean (plainly label operands) s h = record { always = h; at_jump = tt }
way_clean (by_reference e label operands) s h = ref_clean (s.room (captured s.trace)) e label operands s h

pub handler_clean : (clauses : List Catch) (e : ℕ) (s : State) → After clean (Some (Throw e)) s → CaughtKeeps clean (handler clauses e s)
handler_clean clauses e s h =
    subst (λ k. CaughtKeeps clean k) (handler_is (slice_get s.store.exceptions e) clauses e s) (way_clean (way (slice_get s.store.exceptions e) clauses e) s h.always)

-- captures are counted
less : (k N : ℕ) → nat_lt k N ≡ true → k + 1 ≤ N
less k N e = grind (arith, e)

not_less : (k N : ℕ) → nat_lt k N ≡ false → k ≤ N → k ≡ N
not_less k N e le = grind (arith, e)

ref_counted : (N : ℕ) (b : Bool) (e label : ℕ) (operands : List Val) (s : State) → nat_lt (captured s.trace) N ≡ b → Counted N s → CaughtKeeps (counted N) (caught_ref b e label operands s)
ref_counted N true e label operands s h r = record {
  always = record { few = subst (λ k. k ≤ N) (sym (captured-captured s.trace)) (less (captured s.trace) N h); exact = inl (all_append NotFull s.trace Captured (still_clean r.exact) (λ eq. cc)); room = r.room };
  at_jump = tt;
}
  where
    still_clean : AllByRecursion NotFull s.trace ⊎ (captured s.trace ≡ N) → AllByRecursion NotFull s.trace
    still_clean (inl clean) = clean
    still_clean (inr full) = let more = less (captured s.trace) N h in let no : ⊥ = omega (arith, full, more) in absurd no
ref_counted N false e label operands s h r = record { always = r; at_jump = not_less (captured s.trace) N h r.few }

way_counted : (N : ℕ) (w : Way) (s : State) → Counted N s → CaughtKeeps (counted N) (by_way w s)
way_counted N passes s r = tt
way_counted N (plainly label operands) s r = record { always = r; at_jump = tt }
way_counted N (by_reference e label operands) s r = ref_counted N (s.room (captured s.trace)) e label operands s (sym (r.room (captured s.trace))) r

pub handler_counted : (N : ℕ) (clauses : List Catch) (e : ℕ) (s : State) → After (counted N) (Some (Throw e)) s → CaughtKeeps (counted N) (handler clauses e s)
handler_counted N clauses e s h =
    subst (λ k. CaughtKeeps (counted N) k) (handler_is (slice_get s.store.exceptions e) clauses e s) (way_counted N (way (slice_get s.store.exceptions e) clauses e) s h.always)

-- the same under its own answers, or by Full
none_told : (xs ys : List Bool) → xs ≡ xs ++ ys → ys ≡ []
none_told xs ys e = sym (append_cancel_left xs [] ys (append-nil xs ∙ e))

ref_again : (b : Bool) (e label : ℕ) (operands : List Val) (s : State) (a t : List Bool) → answers (seen (replaying.caught_state answering s (caught_ref b e label operands s)).trace) ≡ answers (seen s.trace) ++ a → (caught_ref true e label operands (redial (a ++ t) any_sizes any_room s) ≡ freed_caught answering t (caught_ref b e label operands s)) ⊎ PastCaught answering (caught_ref b e label operands s) (mark Captured (redial (a ++ t) any_sizes any_room s))
ref_again true e label operands s a t told =
    let none = none_told (answers (seen s.trace)) a (sym (answers-captured s.trace) ∙ told) in
    inl (ap (λ l. caught_ref true e label operands (redial (l ++ t) any_sizes any_room s)) none)
ref_again false e label operands s a t told = inr (refl, record { before = s.trace; fulls = []; all_full = tt; stopped = sym (append-nil s.trace); further = begins_same (s.trace ++ Captured ∷ []) })

way_again : (w : Way) (s : State) (a t : List Bool) → answers (seen (replaying.caught_state answering s (by_way w s)).trace) ≡ answers (seen s.trace) ++ a → (by_way w (redial (a ++ t) any_sizes any_room s) ≡ freed_caught answering t (by_way w s)) ⊎ PastCaught answering (by_way w s) (replaying.caught_state answering (redial (a ++ t) any_sizes any_room s) (by_way w (redial (a ++ t) any_sizes any_room s)))
way_again passes s a t told = inl refl
way_again (plainly label operands) s a t told = inl (ap (λ l. catch label operands (redial (l ++ t) any_sizes any_room s)) (none_told (answers (seen s.trace)) a told))
way_again (by_reference e label operands) s a t told = ref_again (s.room (captured s.trace)) e label operands s a t told

caught_leads : (s : State) (k : Option (Caught Val State)) → CaughtLeads order s k → Begins s.trace (replaying.caught_state answering s k).trace
caught_leads s None l = begins_same s.trace
caught_leads s (Some k) l = l

pub handler_replays : (clauses : List Catch) → HandlerReplays answering (handler clauses)
handler_replays clauses = record {
  leads = λ e s. caught_leads s (handler clauses e s) (handler_leads clauses e s);
  again = λ e s a t told.
      let w = way (slice_get s.store.exceptions e) clauses e in
      let here = handler_is (slice_get s.store.exceptions e) clauses e s in
      let free = redial (a ++ t) any_sizes any_room s in
      let there = handler_is (slice_get s.store.exceptions e) clauses e free in
      subst (λ k. (handler clauses e free ≡ freed_caught answering t k) ⊎ PastCaught answering k (replaying.caught_state answering free (handler clauses e free))) here
      (subst (λ k. (k ≡ freed_caught answering t (by_way w s)) ⊎ PastCaught answering (by_way w s) (replaying.caught_state answering free k)) there
      (way_again w s a t (ap (λ k. answers (seen (replaying.caught_state answering s k).trace)) here ∙ told)));
}

-- with bounds and without
module _ (permits : List ℕ → Bool) (room : ℕ → Bool) where
  ref_cuts : (b r : Bool) (e label : ℕ) (operands : List Val) (s : State) → b ≡ true → room (captured s.trace) ≡ r → Open permits room s → (Open permits room (cutting.caught_state (bounding permits room) s (caught_ref b e label operands s)) × (caught_ref r e label operands (redial s.grows permits room s) ≡ bounded_caught (bounding permits room) (caught_ref b e label operands s))) ⊎ Parted permits room (cutting.caught_state (bounding permits room) s (caught_ref b e label operands s)) (cutting.caught_state (bounding permits room) (redial s.grows permits room s) (caught_ref r e label operands (redial s.grows permits room s)))
  ref_cuts true true e label operands s h k fine =
      let there = cut-append permits room 0 s.trace (Captured ∷ []) fine.whole ∙ ap (λ i. s.trace ++ (if room i then Captured ∷ [] else [])) (grind arith) ∙ ap (λ b. s.trace ++ (if b then Captured ∷ [] else [])) k in
      inl (record { sizes = fine.sizes; captures = fine.captures; whole = there }, refl)
  ref_cuts true false e label operands s h k fine = inr (record {
    front = λ more.
        let there = ap (cut permits room 0) (append_assoc s.trace (Captured ∷ []) more)
        ∙ cut-append permits room 0 s.trace (Captured ∷ more) fine.whole
        ∙ ap (λ i. s.trace ++ (if room i then Captured ∷ cut permits room (0 + captured s.trace + 1) more else [])) (grind arith)
        ∙ ap (λ b. s.trace ++ (if b then Captured ∷ cut permits room (0 + captured s.trace + 1) more else [])) k
        ∙ append-nil s.trace in
        subst (λ l. Begins l s.trace) (sym there) (begins_same s.trace);
  })
  ref_cuts false r e label operands s h k fine = absurd cc

  way_cuts : (w : Way) (s : State) → Open permits room s → (Open permits room (cutting.caught_state (bounding permits room) s (by_way w s)) × (by_way w (redial s.grows permits room s) ≡ bounded_caught (bounding permits room) (by_way w s))) ⊎ Parted permits room (cutting.caught_state (bounding permits room) s (by_way w s)) (cutting.caught_state (bounding permits room) (redial s.grows permits room s) (by_way w (redial s.grows permits room s)))
  way_cuts passes s fine = inl (fine, refl)
  way_cuts (plainly label operands) s fine = inl (fine, refl)
  way_cuts (by_reference e label operands) s fine = ref_cuts (s.room (captured s.trace)) (room (captured s.trace)) e label operands s (fine.captures (captured s.trace)) refl fine

  cut_leads : (s : State) (k : Option (Caught Val State)) → CaughtLeads order s k → Begins s.trace (cutting.caught_state (bounding permits room) s k).trace
  cut_leads s None l = begins_same s.trace
  cut_leads s (Some k) l = l

  pub handler_cuts : (clauses : List Catch) → HandlerCuts (bounding permits room) (handler clauses)
  handler_cuts clauses = record {
    leads = λ e s. cut_leads s (handler clauses e s) (handler_leads clauses e s);
    cuts = λ e s fine.
        let w = way (slice_get s.store.exceptions e) clauses e in
        let here = handler_is (slice_get s.store.exceptions e) clauses e s in
        let bounded = redial s.grows permits room s in
        let there = handler_is (slice_get s.store.exceptions e) clauses e bounded in
        subst (λ k. (Open permits room (cutting.caught_state (bounding permits room) s k) × (handler clauses e bounded ≡ bounded_caught (bounding permits room) k)) ⊎ Parted permits room (cutting.caught_state (bounding permits room) s k) (cutting.caught_state (bounding permits room) bounded (handler clauses e bounded))) here
        (subst (λ k. (Open permits room (cutting.caught_state (bounding permits room) s (by_way w s)) × (k ≡ bounded_caught (bounding permits room) (by_way w s))) ⊎ Parted permits room (cutting.caught_state (bounding permits room) s (by_way w s)) (cutting.caught_state (bounding permits room) bounded k)) there
        (way_cuts w s fine));
  }
