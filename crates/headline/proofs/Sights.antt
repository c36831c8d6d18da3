-- What a host sees of a run, by what the stages of lowering say of it.
use Rattle.std.proofs.Common.{◌≡◌, ℕ, ◌+◌, Bool, true, false, cond, List, [], ◌∷◌, ◌++◌, refl, sym, ap, ◌∙◌}
use Rattle.host_kit.specs.Trace.{Mark, Shows, Grown, Captured, Seen, Told, Answered, seen, answers, captured, cut, Begins}
use Rattle.host_kit.proofs.Marks as marks
use Rattle.host_kit.specs.declared.event.Event.{Event}
use Rattle.host_kit.specs.declared.event.Event.TheVariants.{Full}
use Rattle.pass_law.specs.Views as views
use Rattle.pass_law.specs.Views.{Sight, view, answers_of, taken, told, apply}
use Rattle.pass_law.proofs.Sights.{NotFull, NoFull, begins_cons}

-- without captures
pub seen_of : List Sight → List Seen
seen_of [] = []
seen_of (views.Told e ∷ more) = Told e ∷ seen_of more
seen_of (views.Answered ok ∷ more) = Answered ok ∷ seen_of more
seen_of (views.Took ∷ more) = seen_of more

pub seen-view : (marks : List Mark) → seen_of (view marks) ≡ seen marks
unfolding seen_of
seen-view [] = refl
seen-view (Shows e ∷ marks) = ap (λ l. Told e ∷ l) (seen-view marks)
seen-view (Grown ok sizes ∷ marks) = ap (λ l. Answered ok ∷ l) (seen-view marks)
seen-view (Captured ∷ marks) = seen-view marks

seen-append : (xs ys : List Sight) → seen_of (xs ++ ys) ≡ seen_of xs ++ seen_of ys
unfolding seen_of
seen-append [] ys = refl
seen-append (views.Told e ∷ xs) ys = ap (λ l. Told e ∷ l) (seen-append xs ys)
seen-append (views.Answered ok ∷ xs) ys = ap (λ l. Answered ok ∷ l) (seen-append xs ys)
seen-append (views.Took ∷ xs) ys = seen-append xs ys

pub seen_begins : (xs ys : List Mark) → Begins (view xs) (view ys) → Begins (seen xs) (seen ys)
seen_begins xs ys h =
    (seen_of h.0, ap (λ l. l ++ seen_of h.0) (sym (seen-view xs)) ∙ sym (seen-append (view xs) h.0) ∙ ap seen_of h.1 ∙ seen-view ys)

pub answers-view : (marks : List Mark) → answers_of (view marks) ≡ answers (seen marks)
answers-view [] = refl
answers-view (Shows e ∷ marks) = answers-view marks
answers-view (Grown ok sizes ∷ marks) = ap (λ l. ok ∷ l) (answers-view marks)
answers-view (Captured ∷ marks) = answers-view marks

pub taken-view : (marks : List Mark) → taken (view marks) ≡ captured marks
taken-view [] = refl
taken-view (Shows e ∷ marks) = taken-view marks
taken-view (Grown ok sizes ∷ marks) = taken-view marks
taken-view (Captured ∷ marks) = ap (λ n. n + 1) (taken-view marks)

-- a map that changes no event
told_as : (e : Event) (xs ys : List Sight) → NotFull e → xs ≡ ys → told e xs ≡ views.Told e ∷ ys
told_as Full xs ys n p = absurd n
told_as e xs ys n p = ap (λ l. views.Told e ∷ l) p

pub apply-same : (u : Event → Event) → ((e : Event) → u e ≡ e) → (xs : List Sight) → NoFull xs → apply u xs ≡ xs
apply-same u same [] n = refl
apply-same u same (views.Told e ∷ xs) n = ap (λ x. told x (apply u xs)) (same e) ∙ told_as e (apply u xs) xs n.0 (apply-same u same xs n.1)
apply-same u same (views.Answered ok ∷ xs) n = ap (λ l. views.Answered ok ∷ l) (apply-same u same xs n)
apply-same u same (views.Took ∷ xs) n = ap (λ l. views.Took ∷ l) (apply-same u same xs n)

-- where more is permitted, more is kept
begins_where : {A : Type 0} (x : A) (b : Bool) (xs ys : List A) → Begins xs ys → Begins (cond b (x ∷ xs) []) (cond b (x ∷ ys) [])
begins_where x true xs ys h = begins_cons x xs ys h
begins_where x false xs ys h = ([], refl)

begins_more : {A : Type 0} (x : A) (b c : Bool) (xs ys : List A) → (b ≡ true → c ≡ true) → Begins xs ys → Begins (cond b (x ∷ xs) []) (cond c (x ∷ ys) [])
begins_more x true true xs ys f h = begins_cons x xs ys h
begins_more x true false xs ys f h = let wrong : false ≡ true = f refl in absurd cc
begins_more x false c xs ys f h = (cond c (x ∷ ys) [], refl)

module _ (K K' : List ℕ → Bool) (wider : (sizes : List ℕ) → K sizes ≡ true → K' sizes ≡ true) (room : ℕ → Bool) where
  pub cut_begins : (k : ℕ) (marks : List Mark) → Begins (cut K room k marks) (cut K' room k marks)
  cut_begins k [] = ([], refl)
  cut_begins k (Shows e ∷ marks) = begins_cons (Shows e) (cut K room k marks) (cut K' room k marks) (cut_begins k marks)
  cut_begins k (Grown true sizes ∷ marks) = begins_more (Grown true sizes) (K sizes) (K' sizes) (cut K room k marks) (cut K' room k marks) (wider sizes) (cut_begins k marks)
  cut_begins k (Grown false sizes ∷ marks) = begins_cons (Grown false sizes) (cut K room k marks) (cut K' room k marks) (cut_begins k marks)
  cut_begins k (Captured ∷ marks) = begins_where Captured (room k) (cut K room (k + 1) marks) (cut K' room (k + 1) marks) (cut_begins (k + 1) marks)

begins_if : {A : Type 0} (x : A) (b : Bool) (xs ys : List A) → Begins xs ys → Begins (cond b (x ∷ xs) []) (x ∷ ys)
begins_if x true xs ys h = begins_cons x xs ys h
begins_if x false xs ys h = (x ∷ ys, refl)

-- a trace that is cut begins the trace
pub cut_front : (K : List ℕ → Bool) (room : ℕ → Bool) (k : ℕ) (marks : List Mark) → Begins (cut K room k marks) marks
cut_front K room k [] = ([], refl)
cut_front K room k (Shows e ∷ marks) = begins_cons (Shows e) (cut K room k marks) marks (cut_front K room k marks)
cut_front K room k (Grown true sizes ∷ marks) = begins_if (Grown true sizes) (K sizes) (cut K room k marks) marks (cut_front K room k marks)
cut_front K room k (Grown false sizes ∷ marks) = begins_cons (Grown false sizes) (cut K room k marks) marks (cut_front K room k marks)
cut_front K room k (Captured ∷ marks) = begins_if Captured (room k) (cut K room (k + 1) marks) marks (cut_front K room (k + 1) marks)

pub begins_seen : (xs ys : List Mark) → Begins xs ys → Begins (seen xs) (seen ys)
begins_seen xs ys h = (seen h.0, sym (marks.seen-append xs h.0) ∙ ap seen h.1)

view-append : (xs ys : List Mark) → view (xs ++ ys) ≡ view xs ++ view ys
view-append [] ys = refl
view-append (Shows e ∷ xs) ys = ap (λ l. views.Told e ∷ l) (view-append xs ys)
view-append (Grown ok sizes ∷ xs) ys = ap (λ l. views.Answered ok ∷ l) (view-append xs ys)
view-append (Captured ∷ xs) ys = ap (λ l. views.Took ∷ l) (view-append xs ys)

pub view_begins : (xs ys : List Mark) → Begins xs ys → Begins (view xs) (view ys)
view_begins xs ys h = (view h.0, sym (view-append xs h.0) ∙ ap view h.1)
