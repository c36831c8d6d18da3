-- Two traces side by side: what the output of a stage leaves behind, and what its input does, as the two sides of one
-- list.
use Rattle.std.proofs.Common.{◌≡◌, ℕ, ◌+◌, Bool, true, false, if◌then◌else◌, List, [], ◌∷◌, ◌++◌, map, refl, sym, ap, ◌∙◌, subst}
use Rattle.std.specs.List.{AllByRecursion}
use Rattle.host_kit.specs.Trace.{Mark, Shows, Grown, Captured, cut, seen, answers, Begins}
use Rattle.host_kit.proofs.Marks.{begins_same}
use Rattle.host_kit.specs.declared.event.Event.{Event}
use Rattle.host_kit.specs.declared.event.Event.TheVariants.{Full}
use Rattle.pass_law.specs.Views.{Sight, Told, Answered, Took, view, answers_of, told, apply, UnlessFull, Passes}
use Rattle.pass_law.proofs.Sights.{NotFull, NoFull, begins_cons}

pub data Twin : Type 0 where
  -- an event of the output
  Heard : Event → Twin
  -- a growth: its answer, the sizes of the output after it, and those of the input
  Grew : Bool → List ℕ → List ℕ → Twin
  -- a capture in both
  Caught : Twin

-- the mark of the output, and that of the input, by the event map
abbrev pub outer : Twin → Mark
outer (Heard e) = Shows e
outer (Grew ok sizes below) = Grown ok sizes
outer Caught = Captured

abbrev pub inner : (Event → Event) → Twin → Mark
inner u (Heard e) = Shows (u e)
inner u (Grew ok sizes below) = Grown ok below
inner u Caught = Captured

-- the event passes a test, and where there is room for the input's sizes there is for the output's
abbrev pub IsFit : (Event → Bool) → (List ℕ → Bool) → (List ℕ → Bool) → Twin → Type 0
IsFit test K K' (Heard e) = test e ≡ true
IsFit test K K' (Grew ok sizes below) = K below ≡ true → K' sizes ≡ true
IsFit test K K' Caught = Unit {0}

pub told_plainly : (e : Event) (xs : List Sight) → NotFull e → told e xs ≡ Told e ∷ xs
told_plainly Full xs h = absurd h
told_plainly e xs h = refl

unless_holds : {X : Type 0} (e : Event) → X → UnlessFull e X
unless_holds Full h = tt
unless_holds e h = h

module _ (u : Event → Event) where
  pub apply-outer : (ts : List Twin) → NoFull (view (map (inner u) ts)) → apply u (view (map outer ts)) ≡ view (map (inner u) ts)
  apply-outer [] h = refl
  apply-outer (Heard e ∷ ts) h = told_plainly (u e) (apply u (view (map outer ts))) h.0 ∙ ap (λ l. Told (u e) ∷ l) (apply-outer ts h.1)
  apply-outer (Grew ok sizes below ∷ ts) h = ap (λ l. Answered ok ∷ l) (apply-outer ts h)
  apply-outer (Caught ∷ ts) h = ap (λ l. Took ∷ l) (apply-outer ts h)

  module _ (test : Event → Bool) (K K' : List ℕ → Bool) where
    pub outer_passes : (ts : List Twin) → AllByRecursion (IsFit test K K') ts → Passes test u (view (map outer ts))
    outer_passes [] h = tt
    outer_passes (Heard e ∷ ts) h = (h.0, unless_holds (u e) (outer_passes ts h.1))
    outer_passes (Grew ok sizes below ∷ ts) h = outer_passes ts h.1
    outer_passes (Caught ∷ ts) h = outer_passes ts h.1

    growth_cut : (b b' : Bool) (sizes below : List ℕ) (ms os : List Mark) → (b ≡ true → b' ≡ true) → Begins (view ms) (apply u (view os)) → Begins (view (if b then Grown true below ∷ ms else [])) (apply u (view (if b' then Grown true sizes ∷ os else [])))
    growth_cut true true sizes below ms os h f = begins_cons (Answered true) (view ms) (apply u (view os)) f
    growth_cut true false sizes below ms os h f = let no : false ≡ true = h refl in absurd cc
    growth_cut false b' sizes below ms os h f = (apply u (view (if b' then Grown true sizes ∷ os else [])), refl)

    capture_cut : (b : Bool) (ms os : List Mark) → Begins (view ms) (apply u (view os)) → Begins (view (if b then Captured ∷ ms else [])) (apply u (view (if b then Captured ∷ os else [])))
    capture_cut true ms os f = begins_cons Took (view ms) (apply u (view os)) f
    capture_cut false ms os f = begins_same []

    -- where the input is cut, the output is cut no earlier
    pub cut_outer : (room : ℕ → Bool) (k : ℕ) (ts : List Twin) → NoFull (view (map (inner u) ts)) → AllByRecursion (IsFit test K K') ts → Begins (view (cut K room k (map (inner u) ts))) (apply u (view (cut K' room k (map outer ts))))
    cut_outer room k [] n h = begins_same []
    cut_outer room k (Heard e ∷ ts) n h =
        let more = cut_outer room k ts n.1 h.1 in
        subst (Begins (Told (u e) ∷ view (cut K room k (map (inner u) ts)))) (sym (told_plainly (u e) (apply u (view (cut K' room k (map outer ts)))) n.0))
        (begins_cons (Told (u e)) (view (cut K room k (map (inner u) ts))) (apply u (view (cut K' room k (map outer ts)))) more)
    cut_outer room k (Grew true sizes below ∷ ts) n h =
        growth_cut (K below) (K' sizes) sizes below (cut K room k (map (inner u) ts)) (cut K' room k (map outer ts)) h.0 (cut_outer room k ts n h.1)
    cut_outer room k (Grew false sizes below ∷ ts) n h =
        begins_cons (Answered false) (view (cut K room k (map (inner u) ts))) (apply u (view (cut K' room k (map outer ts)))) (cut_outer room k ts n h.1)
    cut_outer room k (Caught ∷ ts) n h = capture_cut (room k) (cut K room (k + 1) (map (inner u) ts)) (cut K' room (k + 1) (map outer ts)) (cut_outer room (k + 1) ts n h.1)

-- a front is cut to a front
kept_front : (b : Bool) (m : Mark) (xs ys : List Mark) → Begins xs ys → Begins (if b then m ∷ xs else []) (if b then m ∷ ys else [])
kept_front true m xs ys f = begins_cons m xs ys f
kept_front false m xs ys f = begins_same []

front_cut : (permits : List ℕ → Bool) (room : ℕ → Bool) (k : ℕ) (xs ys : List Mark) → Begins (cut permits room k xs) (cut permits room k (xs ++ ys))
front_cut permits room k [] ys = (cut permits room k ys, refl)
front_cut permits room k (Shows e ∷ xs) ys = begins_cons (Shows e) (cut permits room k xs) (cut permits room k (xs ++ ys)) (front_cut permits room k xs ys)
front_cut permits room k (Grown true sizes ∷ xs) ys = kept_front (permits sizes) (Grown true sizes) (cut permits room k xs) (cut permits room k (xs ++ ys)) (front_cut permits room k xs ys)
front_cut permits room k (Grown false sizes ∷ xs) ys = begins_cons (Grown false sizes) (cut permits room k xs) (cut permits room k (xs ++ ys)) (front_cut permits room k xs ys)
front_cut permits room k (Captured ∷ xs) ys = kept_front (room k) Captured (cut permits room (k + 1) xs) (cut permits room (k + 1) (xs ++ ys)) (front_cut permits room (k + 1) xs ys)

pub cut_begins : (permits : List ℕ → Bool) (room : ℕ → Bool) (xs ys : List Mark) → Begins xs ys → Begins (cut permits room 0 xs) (cut permits room 0 ys)
cut_begins permits room xs ys f = subst (λ l. Begins (cut permits room 0 xs) (cut permits room 0 l)) f.1 (front_cut permits room 0 xs f.0)

-- what is cut with more room, and then with less, is cut with less
nothing_kept : (b : Bool) (l : List Mark) → (b ≡ true → false ≡ true) → [] ≡ (if b then l else [])
nothing_kept true l h = let no : false ≡ true = h refl in absurd cc
nothing_kept false l h = refl

module _ (permits wide : List ℕ → Bool) (wider : (sizes : List ℕ) → permits sizes ≡ true → wide sizes ≡ true) (room : ℕ → Bool) where
  growth_twice : (b : Bool) (sizes : List ℕ) (k : ℕ) (xs ys : List Mark) → (permits sizes ≡ true → b ≡ true) → cut permits room k xs ≡ ys → cut permits room k (if b then Grown true sizes ∷ xs else []) ≡ (if permits sizes then Grown true sizes ∷ ys else [])
  growth_twice true sizes k xs ys h e = ap (λ l. if permits sizes then Grown true sizes ∷ l else []) e
  growth_twice false sizes k xs ys h e = nothing_kept (permits sizes) (Grown true sizes ∷ ys) h

  pub cut-twice : (k : ℕ) (xs : List Mark) → cut permits room k (cut wide (λ i. true) k xs) ≡ cut permits room k xs
  cut-twice k [] = refl
  cut-twice k (Shows e ∷ xs) = ap (λ l. Shows e ∷ l) (cut-twice k xs)
  cut-twice k (Grown true sizes ∷ xs) = growth_twice (wide sizes) sizes k (cut wide (λ i. true) k xs) (cut permits room k xs) (wider sizes) (cut-twice k xs)
  cut-twice k (Grown false sizes ∷ xs) = ap (λ l. Grown false sizes ∷ l) (cut-twice k xs)
  cut-twice k (Captured ∷ xs) = ap (λ l. if room k then Captured ∷ l else []) (cut-twice (k + 1) xs)

-- what is seen of a front is a front
pub view-append : (xs ys : List Mark) → view (xs ++ ys) ≡ view xs ++ view ys
view-append [] ys = refl
view-append (Shows e ∷ xs) ys = ap (λ l. Told e ∷ l) (view-append xs ys)
view-append (Grown ok sizes ∷ xs) ys = ap (λ l. Answered ok ∷ l) (view-append xs ys)
view-append (Captured ∷ xs) ys = ap (λ l. Took ∷ l) (view-append xs ys)

pub view_begins : (xs ys : List Mark) → Begins xs ys → Begins (view xs) (view ys)
view_begins xs ys f = (view f.0, sym (view-append xs f.0) ∙ ap view f.1)

-- answers in a trace, as they are seen
pub answers-seen : (marks : List Mark) → answers_of (view marks) ≡ answers (seen marks)
answers-seen [] = refl
answers-seen (Shows e ∷ marks) = answers-seen marks
answers-seen (Grown ok sizes ∷ marks) = ap (λ l. ok ∷ l) (answers-seen marks)
answers-seen (Captured ∷ marks) = answers-seen marks

-- a trace that ends with a full store shows one
pub full_at_end : (xs : List Mark) → NoFull (view (xs ++ Shows Full ∷ [])) → ⊥
full_at_end [] h = h.0
full_at_end (Shows e ∷ xs) h = full_at_end xs h.1
full_at_end (Grown ok sizes ∷ xs) h = full_at_end xs h
full_at_end (Captured ∷ xs) h = full_at_end xs h
