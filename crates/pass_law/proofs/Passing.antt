-- Events that pass the tests of two stages pass the test of both.
use Rattle.std.proofs.Common.{◌≡◌, ◌&&◌, Bool, true, false, List, [], ◌∷◌, ◌++◌, refl, sym, subst}
use Rattle.host_kit.specs.Trace.{Begins}
use Rattle.host_kit.specs.declared.event.Event.{Event}
use Rattle.host_kit.specs.declared.event.Event.TheVariants.{Full}
use Rattle.pass_law.specs.Views.{Sight, Told, Answered, Took, untaken, kept, told, apply, UnlessFull, Passes}

unless_map : {X Y : Type 0} (e : Event) → (X → Y) → UnlessFull e X → UnlessFull e Y
unless_map Full f h = tt
unless_map e f h = f h

unless_full : (X : Type 0) (e : Event) → e ≡ Full → UnlessFull e X
unless_full X e h = subst (λ x. UnlessFull x X) (sym h) tt

both : (a b : Bool) → a ≡ true → b ≡ true → (a && b) ≡ true
both true true h h' = refl
both true false h h' = h'
both false b h h' = h

pub passes_front : (test : Event → Bool) (u : Event → Event) (xs ys : List Sight) → Passes test u (xs ++ ys) → Passes test u xs
passes_front test u [] ys h = tt
passes_front test u (Told e ∷ xs) ys h = (h.0, unless_map (u e) (passes_front test u xs ys) h.1)
passes_front test u (Answered ok ∷ xs) ys h = passes_front test u xs ys h
passes_front test u (Took ∷ xs) ys h = passes_front test u xs ys h

pub passes_begins : (test : Event → Bool) (u : Event → Event) (xs ys : List Sight) → Begins xs ys → Passes test u ys → Passes test u xs
passes_begins test u xs ys f h = passes_front test u xs f.0 (subst (Passes test u) (sym f.1) h)

pub passes_untaken : (test : Event → Bool) (u : Event → Event) (xs : List Sight) → Passes test u xs → Passes test u (untaken xs)
passes_untaken test u [] h = tt
passes_untaken test u (Told e ∷ xs) h = (h.0, unless_map (u e) (passes_untaken test u xs) h.1)
passes_untaken test u (Answered ok ∷ xs) h = passes_untaken test u xs h
passes_untaken test u (Took ∷ xs) h = passes_untaken test u xs h

pub passes_kept : (test : Event → Bool) (u : Event → Event) (b : Bool) (xs : List Sight) → Passes test u xs → Passes test u (kept b xs)
passes_kept test u true xs h = passes_untaken test u xs h
passes_kept test u false xs h = h

ended : (e : Event) → UnlessFull e (Unit {0})
ended Full = tt
ended e = tt

pub passes_snoc : (test : Event → Bool) (u : Event → Event) (xs : List Sight) (last : Event) → Passes test u xs → test last ≡ true → Passes test u (xs ++ Told last ∷ [])
passes_snoc test u [] last h t = (t, ended (u last))
passes_snoc test u (Told e ∷ xs) last h t = (h.0, unless_map (u e) (λ h'. passes_snoc test u xs last h' t) h.1)
passes_snoc test u (Answered ok ∷ xs) last h t = passes_snoc test u xs last h t
passes_snoc test u (Took ∷ xs) last h t = passes_snoc test u xs last h t

told_passes : (A B : Type 0) (test : Event → Bool) (u : Event → Event) → u Full ≡ Full → (e : Event) (xs : List Sight) → (A → Passes test u xs → B) → UnlessFull e A → Passes test u (told e xs) → (test e ≡ true) × UnlessFull (u e) B
told_passes A B test u full Full xs f g h = (h.0, unless_full B (u Full) full)
told_passes A B test u full e xs f g h = (h.0, unless_map (u e) (f g) h.1)

pub passes_both : (test test' : Event → Bool) (u u' : Event → Event) → u Full ≡ Full → (xs : List Sight) → Passes test' u' xs → Passes test u (apply u' xs) → Passes (λ e. test' e && test (u' e)) (λ e. u (u' e)) xs
passes_both test test' u u' full [] h h' = tt
passes_both test test' u u' full (Told e ∷ xs) h h' =
    let shown = told_passes (Passes test' u' xs) (Passes (λ x. test' x && test (u' x)) (λ x. u (u' x)) xs) test u full (u' e) (apply u' xs) (passes_both test test' u u' full xs) h.1 h' in
    (both (test' e) (test (u' e)) h.0 shown.0, shown.1)
passes_both test test' u u' full (Answered ok ∷ xs) h h' = passes_both test test' u u' full xs h h'
passes_both test test' u u' full (Took ∷ xs) h h' = passes_both test test' u u' full xs h h'
