-- Traces that go on: what is read off them goes on too.
use Rattle.std.proofs.Common.{◌≡◌, ℕ, ◌+◌, ◌≤◌, Bool, true, false, if◌then◌else◌, List, [], ◌∷◌, ◌++◌, refl, sym, ap, ◌∙◌, append_assoc, append-nil, add-zero, arith}
use Rattle.host_kit.specs.Trace.{Mark, Shows, Grown, Captured, Seen, Told, Answered, events, seen, answers, captured, cut, Begins}
use Rattle.host_kit.specs.declared.event.Event.{Event}

pub begins_same : {A : Type 0} (xs : List A) → Begins xs xs
begins_same xs = ([], append-nil xs)

pub begins_append : {A : Type 0} (xs ys : List A) → Begins xs (xs ++ ys)
begins_append xs ys = (ys, refl)

pub begins_trans : {A : Type 0} (xs ys zs : List A) → Begins xs ys → Begins ys zs → Begins xs zs
begins_trans xs ys zs f g = (f.0 ++ g.0, sym (append_assoc xs f.0 g.0) ∙ ap (λ l. l ++ g.0) f.1 ∙ g.1)

pub events-append : (xs ys : List Mark) → events (xs ++ ys) ≡ events xs ++ events ys
events-append [] ys = refl
events-append (Shows e ∷ xs) ys = ap (λ l. e ∷ l) (events-append xs ys)
events-append (Grown ok sizes ∷ xs) ys = events-append xs ys
events-append (Captured ∷ xs) ys = events-append xs ys

pub seen-append : (xs ys : List Mark) → seen (xs ++ ys) ≡ seen xs ++ seen ys
seen-append [] ys = refl
seen-append (Shows e ∷ xs) ys = ap (λ l. Told e ∷ l) (seen-append xs ys)
seen-append (Grown ok sizes ∷ xs) ys = ap (λ l. Answered ok ∷ l) (seen-append xs ys)
seen-append (Captured ∷ xs) ys = seen-append xs ys

pub answers-append : (xs ys : List Seen) → answers (xs ++ ys) ≡ answers xs ++ answers ys
answers-append [] ys = refl
answers-append (Told e ∷ xs) ys = answers-append xs ys
answers-append (Answered ok ∷ xs) ys = ap (λ l. ok ∷ l) (answers-append xs ys)

captured-append : (xs ys : List Mark) → captured (xs ++ ys) ≡ captured xs + captured ys
captured-append [] ys = omega arith
captured-append (Shows e ∷ xs) ys = captured-append xs ys
captured-append (Grown ok sizes ∷ xs) ys = captured-append xs ys
captured-append (Captured ∷ xs) ys = omega (arith, captured-append xs ys)

pub begins_events : (xs ys : List Mark) → Begins xs ys → Begins (events xs) (events ys)
begins_events xs ys f = (events f.0, sym (events-append xs f.0) ∙ ap events f.1)

pub begins_answers : (xs ys : List Mark) → Begins xs ys → Begins (answers (seen xs)) (answers (seen ys))
begins_answers xs ys f =
    (answers (seen f.0), sym (answers-append (seen xs) (seen f.0)) ∙ ap answers (sym (seen-append xs f.0)) ∙ ap (λ l. answers (seen l)) f.1)

pub captured_grows : (xs ys : List Mark) → Begins xs ys → captured xs ≤ captured ys
captured_grows xs ys f = omega (arith, captured-append xs f.0, ap captured f.1)

-- one event more
pub answers-shown : (xs : List Mark) (e : Event) → answers (seen (xs ++ Shows e ∷ [])) ≡ answers (seen xs)
answers-shown xs e = ap answers (seen-append xs (Shows e ∷ [])) ∙ answers-append (seen xs) (Told e ∷ []) ∙ append-nil (answers (seen xs))

pub captured-shown : (xs : List Mark) (e : Event) → captured (xs ++ Shows e ∷ []) ≡ captured xs
captured-shown xs e = captured-append xs (Shows e ∷ []) ∙ add-zero (captured xs)

pub captured-captured : (xs : List Mark) → captured (xs ++ Captured ∷ []) ≡ captured xs + 1
captured-captured xs = captured-append xs (Captured ∷ [])

pub answers-captured : (xs : List Mark) → answers (seen (xs ++ Captured ∷ [])) ≡ answers (seen xs)
answers-captured xs = ap answers (seen-append xs (Captured ∷ [])) ∙ answers-append (seen xs) [] ∙ append-nil (answers (seen xs))

pub captured-grown : (xs : List Mark) (ok : Bool) (sizes : List ℕ) → captured (xs ++ Grown ok sizes ∷ []) ≡ captured xs
captured-grown xs ok sizes = captured-append xs (Grown ok sizes ∷ []) ∙ add-zero (captured xs)

pub answers-grown : (xs : List Mark) (ok : Bool) (sizes : List ℕ) → answers (seen (xs ++ Grown ok sizes ∷ [])) ≡ answers (seen xs) ++ ok ∷ []
answers-grown xs ok sizes = ap answers (seen-append xs (Grown ok sizes ∷ [])) ∙ answers-append (seen xs) (Answered ok ∷ [])

tail_of : {A : Type 0} → List A → List A
tail_of [] = []
tail_of (x ∷ xs) = xs

same_tail : {A : Type 0} (x y : A) (xs ys : List A) → x ∷ xs ≡ y ∷ ys → xs ≡ ys
unfolding tail_of
same_tail x y xs ys e = ap tail_of e

stays_whole : (b : Bool) (m : Mark) (l xs : List Mark) → (if b then m ∷ l else []) ≡ m ∷ xs → (b ≡ true) × (l ≡ xs)
stays_whole true m l xs e = (refl, same_tail m m l xs e)
stays_whole false m l xs e = absurd cc

-- a trace that is not cut, and what is cut behind it
pub cut-append : (permits : List ℕ → Bool) (room : ℕ → Bool) (k : ℕ) (xs ys : List Mark) → cut permits room k xs ≡ xs → cut permits room k (xs ++ ys) ≡ xs ++ cut permits room (k + captured xs) ys
cut-append permits room k [] ys e = ap (λ i. cut permits room i ys) (sym (add-zero k))
cut-append permits room k (Shows e ∷ xs) ys h = ap (λ l. Shows e ∷ l) (cut-append permits room k xs ys (same_tail _ _ _ _ h))
cut-append permits room k (Grown true sizes ∷ xs) ys h =
    let both = stays_whole (permits sizes) (Grown true sizes) (cut permits room k xs) xs h in
    ap (λ b. if b then Grown true sizes ∷ cut permits room k (xs ++ ys) else []) both.0 ∙ ap (λ l. Grown true sizes ∷ l) (cut-append permits room k xs ys both.1)
cut-append permits room k (Grown false sizes ∷ xs) ys h = ap (λ l. Grown false sizes ∷ l) (cut-append permits room k xs ys (same_tail _ _ _ _ h))
cut-append permits room k (Captured ∷ xs) ys h =
    let both = stays_whole (room k) Captured (cut permits room (k + 1) xs) xs h in
    let count : k + 1 + captured xs ≡ k + (captured xs + 1) = omega arith in
    ap (λ b. if b then Captured ∷ cut permits room (k + 1) (xs ++ ys) else []) both.0
    ∙ ap (λ l. Captured ∷ l) (cut-append permits room (k + 1) xs ys both.1 ∙ ap (λ i. xs ++ cut permits room i ys) count)
