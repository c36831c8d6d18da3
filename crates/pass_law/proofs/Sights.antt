-- Lists of what is seen of a run: fronts of them, maps of events over them, and captures left out of them.
use Rattle.std.proofs.Common.{◌≡◌, ℕ, suc, ◌+◌, ◌<◌, ◌≤◌, ◌⊎◌, inl, inr, Bool, true, false, if◌then◌else◌, nat_lt, length, List, [], ◌∷◌, ◌++◌, refl, sym, ap, ◌∙◌, subst, ◌||◌, append-nil, arith}
use Rattle.std.proofs.lemmas.Bool.{ltb-true}
use Rattle.std.specs.Prelude.{Contains}
use Rattle.host_kit.specs.Trace.{Mark, Shows, Grown, Captured, Begins}
use Rattle.host_kit.proofs.Marks.{begins_same}
use Rattle.host_kit.specs.declared.event.Event.{Event}
use Rattle.host_kit.specs.declared.event.Event.TheVariants.{Full}
use Rattle.pass_law.specs.Views.{Sight, Told, Answered, Took, view, answers_of, taken, untaken, kept, told, apply, before_from}

-- no event is a full store of captured exceptions
abbrev pub NotFull : Event → Type 0
NotFull Full = ⊥
NotFull _ = Unit {0}

abbrev pub NoFull : List Sight → Type 0
NoFull [] = Unit {0}
NoFull (Told e ∷ more) = NotFull e × NoFull more
NoFull (Answered ok ∷ more) = NoFull more
NoFull (Took ∷ more) = NoFull more

-- one thing more in front
pub begins_cons : {A : Type 0} (x : A) (xs ys : List A) → Begins xs ys → Begins (x ∷ xs) (x ∷ ys)
begins_cons x xs ys h = (h.0, ap (λ l. x ∷ l) h.1)

begins_told : (e : Event) (xs ys : List Sight) → Begins xs ys → Begins (told e xs) (told e ys)
begins_told Full xs ys h = begins_same (Told Full ∷ [])
begins_told e xs ys h = begins_cons (Told e) xs ys h

-- what is seen of a front is a front
apply_append : (u : Event → Event) (xs ys : List Sight) → Begins (apply u xs) (apply u (xs ++ ys))
apply_append u [] ys = (apply u ys, refl)
apply_append u (Told e ∷ xs) ys = begins_told (u e) (apply u xs) (apply u (xs ++ ys)) (apply_append u xs ys)
apply_append u (Answered ok ∷ xs) ys = begins_cons (Answered ok) (apply u xs) (apply u (xs ++ ys)) (apply_append u xs ys)
apply_append u (Took ∷ xs) ys = begins_cons Took (apply u xs) (apply u (xs ++ ys)) (apply_append u xs ys)

pub apply_begins : (u : Event → Event) (xs ys : List Sight) → Begins xs ys → Begins (apply u xs) (apply u ys)
apply_begins u xs ys h = subst (λ l. Begins (apply u xs) (apply u l)) h.1 (apply_append u xs h.0)

pub untaken-append : (xs ys : List Sight) → untaken (xs ++ ys) ≡ untaken xs ++ untaken ys
untaken-append [] ys = refl
untaken-append (Told e ∷ xs) ys = ap (λ l. Told e ∷ l) (untaken-append xs ys)
untaken-append (Answered ok ∷ xs) ys = ap (λ l. Answered ok ∷ l) (untaken-append xs ys)
untaken-append (Took ∷ xs) ys = untaken-append xs ys

pub untaken_begins : (xs ys : List Sight) → Begins xs ys → Begins (untaken xs) (untaken ys)
untaken_begins xs ys h = (untaken h.0, sym (untaken-append xs h.0) ∙ ap untaken h.1)

pub kept_begins : (b : Bool) (xs ys : List Sight) → Begins xs ys → Begins (kept b xs) (kept b ys)
kept_begins true xs ys h = untaken_begins xs ys h
kept_begins false xs ys h = h

pub answers-append : (xs ys : List Sight) → answers_of (xs ++ ys) ≡ answers_of xs ++ answers_of ys
answers-append [] ys = refl
answers-append (Told e ∷ xs) ys = answers-append xs ys
answers-append (Answered ok ∷ xs) ys = ap (λ l. ok ∷ l) (answers-append xs ys)
answers-append (Took ∷ xs) ys = answers-append xs ys

pub answers_begins : (xs ys : List Sight) → Begins xs ys → Begins (answers_of xs) (answers_of ys)
answers_begins xs ys h = (answers_of h.0, sym (answers-append xs h.0) ∙ ap answers_of h.1)

pub answers-told : (xs : List Sight) (e : Event) → answers_of (xs ++ Told e ∷ []) ≡ answers_of xs
answers-told xs e = answers-append xs (Told e ∷ []) ∙ append-nil (answers_of xs)

pub taken-append : (xs ys : List Sight) → taken (xs ++ ys) ≡ taken xs + taken ys
taken-append [] ys = omega arith
taken-append (Told e ∷ xs) ys = taken-append xs ys
taken-append (Answered ok ∷ xs) ys = taken-append xs ys
taken-append (Took ∷ xs) ys = omega (arith, taken-append xs ys)

pub taken_begins : (xs ys : List Sight) → Begins xs ys → taken xs ≤ taken ys
taken_begins xs ys h = omega (arith, taken-append xs h.0, ap taken h.1)

-- without captures
pub answers-untaken : (xs : List Sight) → answers_of (untaken xs) ≡ answers_of xs
answers-untaken [] = refl
answers-untaken (Told e ∷ xs) = answers-untaken xs
answers-untaken (Answered ok ∷ xs) = ap (λ l. ok ∷ l) (answers-untaken xs)
answers-untaken (Took ∷ xs) = answers-untaken xs

pub answers-kept : (b : Bool) (xs : List Sight) → answers_of (kept b xs) ≡ answers_of xs
answers-kept true xs = answers-untaken xs
answers-kept false xs = refl

pub untaken-untaken : (xs : List Sight) → untaken (untaken xs) ≡ untaken xs
untaken-untaken [] = refl
untaken-untaken (Told e ∷ xs) = ap (λ l. Told e ∷ l) (untaken-untaken xs)
untaken-untaken (Answered ok ∷ xs) = ap (λ l. Answered ok ∷ l) (untaken-untaken xs)
untaken-untaken (Took ∷ xs) = untaken-untaken xs

pub taken-untaken : (xs : List Sight) → taken (untaken xs) ≡ 0
taken-untaken [] = refl
taken-untaken (Told e ∷ xs) = taken-untaken xs
taken-untaken (Answered ok ∷ xs) = taken-untaken xs
taken-untaken (Took ∷ xs) = taken-untaken xs

pub taken_kept : (b : Bool) (xs : List Sight) → taken (kept b xs) ≤ taken xs
taken_kept true xs = omega (arith, taken-untaken xs)
taken_kept false xs = omega arith

untaken_told : (e : Event) (xs : List Sight) → untaken (told e xs) ≡ told e (untaken xs)
untaken_told Full xs = refl
untaken_told e xs = refl

pub apply-untaken : (u : Event → Event) (xs : List Sight) → apply u (untaken xs) ≡ untaken (apply u xs)
apply-untaken u [] = refl
apply-untaken u (Told e ∷ xs) = ap (told (u e)) (apply-untaken u xs) ∙ sym (untaken_told (u e) (apply u xs))
apply-untaken u (Answered ok ∷ xs) = ap (λ l. Answered ok ∷ l) (apply-untaken u xs)
apply-untaken u (Took ∷ xs) = apply-untaken u xs

pub apply-kept : (u : Event → Event) (b : Bool) (xs : List Sight) → apply u (kept b xs) ≡ kept b (apply u xs)
apply-kept u true xs = apply-untaken u xs
apply-kept u false xs = refl

pub kept-kept : (b c : Bool) (xs : List Sight) → kept c (kept b xs) ≡ kept (b || c) xs
kept-kept true true xs = untaken-untaken xs
kept-kept true false xs = refl
kept-kept false true xs = refl
kept-kept false false xs = refl

-- one map after another, where the second leaves a full store as it is
told_full : (e : Event) (xs ys : List Sight) → e ≡ Full → told e xs ≡ told e ys
told_full e xs ys h = subst (λ x. told x xs ≡ told x ys) (sym h) refl

apply_told : (u : Event → Event) → u Full ≡ Full → (e : Event) (xs : List Sight) → apply u (told e xs) ≡ told (u e) (apply u xs)
apply_told u full Full xs = told_full (u Full) [] (apply u xs) full
apply_told u full e xs = refl

pub apply-apply : (u v : Event → Event) → u Full ≡ Full → (xs : List Sight) → apply u (apply v xs) ≡ apply (λ e. u (v e)) xs
apply-apply u v full [] = refl
apply-apply u v full (Told e ∷ xs) = apply_told u full (v e) (apply v xs) ∙ ap (told (u (v e))) (apply-apply u v full xs)
apply-apply u v full (Answered ok ∷ xs) = ap (λ l. Answered ok ∷ l) (apply-apply u v full xs)
apply-apply u v full (Took ∷ xs) = ap (λ l. Took ∷ l) (apply-apply u v full xs)

-- where no store is full
no_full_front : (xs ys : List Sight) → NoFull (xs ++ ys) → NoFull xs
no_full_front [] ys h = tt
no_full_front (Told e ∷ xs) ys h = (h.0, no_full_front xs ys h.1)
no_full_front (Answered ok ∷ xs) ys h = no_full_front xs ys h
no_full_front (Took ∷ xs) ys h = no_full_front xs ys h

pub no_full_begins : (xs ys : List Sight) → Begins xs ys → NoFull ys → NoFull xs
no_full_begins xs ys f h = no_full_front xs f.0 (subst NoFull (sym f.1) h)

pub no_full_kept : (b : Bool) (xs : List Sight) → NoFull xs → NoFull (kept b xs)
no_full_kept false xs h = h
no_full_kept true [] h = tt
no_full_kept true (Told e ∷ xs) h = (h.0, no_full_kept true xs h.1)
no_full_kept true (Answered ok ∷ xs) h = no_full_kept true xs h
no_full_kept true (Took ∷ xs) h = no_full_kept true xs h

told_plain : (e : Event) (xs : List Sight) → NoFull (told e xs) → (NotFull e × NoFull xs) × (told e xs ≡ Told e ∷ xs)
told_plain Full xs h = absurd h.0
told_plain e xs h = ((tt, h.1), refl)

pub taken-apply : (u : Event → Event) (xs : List Sight) → NoFull (apply u xs) → taken (apply u xs) ≡ taken xs
taken-apply u [] h = refl
taken-apply u (Told e ∷ xs) h =
    let plain = told_plain (u e) (apply u xs) h in
    ap taken plain.1 ∙ taken-apply u xs plain.0.1
taken-apply u (Answered ok ∷ xs) h = taken-apply u xs h
taken-apply u (Took ∷ xs) h = ap (λ n. n + 1) (taken-apply u xs h)

told_append : (e : Event) → NotFull e → (xs ys : List Sight) → told e (xs ++ ys) ≡ told e xs ++ ys
told_append Full h xs ys = absurd h
told_append e h xs ys = refl

pub apply-append : (u : Event → Event) (xs ys : List Sight) → NoFull (apply u xs) → apply u (xs ++ ys) ≡ apply u xs ++ apply u ys
apply-append u [] ys h = refl
apply-append u (Told e ∷ xs) ys h =
    let plain = told_plain (u e) (apply u xs) h in
    ap (told (u e)) (apply-append u xs ys plain.0.1) ∙ told_append (u e) plain.0.0 (apply u xs) (apply u ys)
apply-append u (Answered ok ∷ xs) ys h = ap (λ l. Answered ok ∷ l) (apply-append u xs ys h)
apply-append u (Took ∷ xs) ys h = ap (λ l. Took ∷ l) (apply-append u xs ys h)

-- what comes before a full store of captured exceptions
cut_begins : (b : Bool) (xs ys : List Sight) → Begins xs ys → Begins (if b then Took ∷ xs else []) (Took ∷ ys)
cut_begins true xs ys h = begins_cons Took xs ys h
cut_begins false xs ys h = (Took ∷ ys, refl)

pub before_begins : (N k : ℕ) (xs : List Sight) → Begins (before_from N k xs) xs
before_begins N k [] = begins_same []
before_begins N k (Told e ∷ xs) = begins_cons (Told e) (before_from N k xs) xs (before_begins N k xs)
before_begins N k (Answered ok ∷ xs) = begins_cons (Answered ok) (before_from N k xs) xs (before_begins N k xs)
before_begins N k (Took ∷ xs) = cut_begins (nat_lt k N) (before_from N (k + 1) xs) xs (before_begins N (k + 1) xs)

apply_cut : (u : Event → Event) (b : Bool) (xs ys : List Sight) → apply u xs ≡ ys → apply u (if b then Took ∷ xs else []) ≡ (if b then Took ∷ ys else [])
apply_cut u true xs ys h = ap (λ l. Took ∷ l) h
apply_cut u false xs ys h = refl

before_told : (N k : ℕ) (e : Event) → NotFull e → (xs : List Sight) → told e (before_from N k xs) ≡ before_from N k (told e xs)
before_told N k Full h xs = absurd h
before_told N k e h xs = refl

pub apply-before : (u : Event → Event) (N k : ℕ) (xs : List Sight) → NoFull (apply u xs) → apply u (before_from N k xs) ≡ before_from N k (apply u xs)
apply-before u N k [] h = refl
apply-before u N k (Told e ∷ xs) h =
    let plain = told_plain (u e) (apply u xs) h in
    ap (told (u e)) (apply-before u N k xs plain.0.1) ∙ before_told N k (u e) plain.0.0 (apply u xs)
apply-before u N k (Answered ok ∷ xs) h = ap (λ l. Answered ok ∷ l) (apply-before u N k xs h)
apply-before u N k (Took ∷ xs) h = apply_cut u (nat_lt k N) (before_from N (k + 1) xs) (before_from N (k + 1) (apply u xs)) (apply-before u N (k + 1) xs h)

-- what comes before the capture is decided by a front that has it
same_cut : (N k : ℕ) (b : Bool) → nat_lt k N ≡ b → (xs ys : List Sight) → (k < N → xs ≡ ys) → (if b then Took ∷ xs else []) ≡ (if b then Took ∷ ys else [])
same_cut N k true e xs ys h = ap (λ l. Took ∷ l) (h (ltb-true k N e))
same_cut N k false e xs ys h = refl

pub before-enough : (N k : ℕ) (xs rest : List Sight) → k ≤ N → N < k + taken xs → before_from N k (xs ++ rest) ≡ before_from N k xs
before-enough N k [] rest le many = let no : ⊥ = omega (arith, le, many) in absurd no
before-enough N k (Told e ∷ xs) rest le many = ap (λ l. Told e ∷ l) (before-enough N k xs rest le many)
before-enough N k (Answered ok ∷ xs) rest le many = ap (λ l. Answered ok ∷ l) (before-enough N k xs rest le many)
before-enough N k (Took ∷ xs) rest le many =
    same_cut N k (nat_lt k N) refl (before_from N (k + 1) (xs ++ rest)) (before_from N (k + 1) xs) (λ lt.
    let le' : k + 1 ≤ N = omega (arith, lt) in
    let many' : N < (k + 1) + taken xs = omega (arith, many) in
    before-enough N (k + 1) xs rest le' many')

-- Where a run has a capture that its map does not show, a full store comes first: nothing behind it matters.
told_same : (e : Event) (xs ys : List Sight) → (NotFull e → xs ≡ ys) → told e xs ≡ told e ys
told_same Full xs ys h = refl
told_same e xs ys h = ap (λ l. Told e ∷ l) (h tt)

untaken_shown : (e : Event) (xs : List Sight) → NotFull e → taken (told e xs) ≡ taken xs
untaken_shown Full xs h = absurd h
untaken_shown e xs h = refl

pub full-first : (u : Event → Event) (N k : ℕ) (xs tail : List Sight) → taken (apply u xs) ≡ 0 → 0 < taken xs → apply u (untaken (before_from N k xs) ++ tail) ≡ apply u xs
full-first u N k [] tail none some = let no : ⊥ = omega (arith, some) in absurd no
full-first u N k (Told e ∷ xs) tail none some =
    told_same (u e) (apply u (untaken (before_from N k xs) ++ tail)) (apply u xs) (λ h.
    full-first u N k xs tail (sym (untaken_shown (u e) (apply u xs) h) ∙ none) some)
full-first u N k (Answered ok ∷ xs) tail none some = ap (λ l. Answered ok ∷ l) (full-first u N k xs tail none some)
full-first u N k (Took ∷ xs) tail none some = let no : ⊥ = omega (arith, none) in absurd no

-- a front of a list and one thing more is a front of the list, or all of it
tail_of : {A : Type 0} → List A → List A
tail_of [] = []
tail_of (x ∷ xs) = xs

head_of : {A : Type 0} → A → List A → A
head_of d [] = d
head_of d (x ∷ xs) = x

head_same : {A : Type 0} (x y : A) (xs ys : List A) → x ∷ xs ≡ y ∷ ys → x ≡ y
unfolding head_of
head_same x y xs ys e = ap (head_of x) e

tail_same : {A : Type 0} (x y : A) (xs ys : List A) → x ∷ xs ≡ y ∷ ys → xs ≡ ys
unfolding tail_of
tail_same x y xs ys e = ap tail_of e

empty_both : {A : Type 0} (xs ys : List A) → xs ++ ys ≡ [] → xs ≡ []
empty_both [] ys e = refl
empty_both (x ∷ xs) ys e = absurd cc

snoc_whole : {A : Type 0} (x : A) (xs rest : List A) (last : A) → x ∷ (xs ++ rest) ≡ last ∷ [] → x ∷ xs ≡ last ∷ []
snoc_whole x xs rest last e =
    ap (λ y. y ∷ xs) (head_same x last (xs ++ rest) [] e) ∙ ap (λ l. last ∷ l) (empty_both xs rest (tail_same x last (xs ++ rest) [] e))

snoc_cons : {A : Type 0} (x y : A) (xs ys : List A) (last : A) → x ≡ y → Begins xs ys ⊎ (xs ≡ ys ++ last ∷ []) → Begins (x ∷ xs) (y ∷ ys) ⊎ (x ∷ xs ≡ y ∷ (ys ++ last ∷ []))
snoc_cons x y xs ys last e (inl h) = inl (h.0, ap (λ z. z ∷ (xs ++ h.0)) e ∙ ap (λ l. y ∷ l) h.1)
snoc_cons x y xs ys last e (inr h) = inr (ap (λ z. z ∷ xs) e ∙ ap (λ l. y ∷ l) h)

one_more : {A : Type 0} (x y : A) (xs ys : List A) → x ∷ xs ≡ y ∷ ys → (x ≡ y) × (xs ≡ ys)
one_more x y xs ys e = (head_same x y xs ys e, tail_same x y xs ys e)

pub begins_snoc : {A : Type 0} (xs ys : List A) (last : A) → Begins xs (ys ++ last ∷ []) → Begins xs ys ⊎ (xs ≡ ys ++ last ∷ [])
begins_snoc [] ys last h = inl (ys, refl)
begins_snoc (x ∷ xs) [] last h = inr (snoc_whole x xs h.0 last h.1)
begins_snoc (x ∷ xs) (y ∷ ys) last h =
    let same = one_more x y (xs ++ h.0) (ys ++ last ∷ []) h.1 in
    snoc_cons x y xs ys last same.0 (begins_snoc xs ys last (h.0, same.1))

-- that no trace of the meaning shows a full store, as it is seen
not_full : (e : Event) → (Shows e ≡ Shows Full → ⊥) → NotFull e
not_full Full h = h refl
not_full e h = tt

more : (k n : ℕ) → k < n → suc k < suc n
more k n lt = omega (arith, lt)

positive : (n : ℕ) → 0 < suc n
positive n = omega arith

later : (x : Mark) (marks : List Mark) → (Contains (x ∷ marks) (Shows Full) → ⊥) → Contains marks (Shows Full) → ⊥
later x marks h c = h (suc c.0, more c.0 (length marks) c.1, c.2)

pub never_full : (marks : List Mark) → (Contains marks (Shows Full) → ⊥) → NoFull (view marks)
never_full [] h = tt
never_full (Shows e ∷ marks) h = (not_full e (λ same. h (0, positive (length marks), same)), never_full marks (later (Shows e) marks h))
never_full (Grown ok sizes ∷ marks) h = never_full marks (later (Grown ok sizes) marks h)
never_full (Captured ∷ marks) h = never_full marks (later Captured marks h)
