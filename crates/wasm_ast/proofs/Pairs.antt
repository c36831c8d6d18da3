-- Pairs of which any two with equal firsts are to have equal seconds, beside a map that holds them once.
use Rattle.std.proofs.Common.{◌≡◌, ℕ, zero, suc, ◌<◌, length, take, get_or, arith, Bool, true, false, ◌&&◌, ◌||◌, not, ◌⊎◌, inl, inr, List, [], ◌∷◌, ◌++◌, map, refl, sym, ap, ◌∙◌, subst}
use Rattle.std.specs.Prelude.{bytes_eq}
use Rattle.std.specs.List.{list_all}
use Rattle.std.proofs.lemmas.Slice.Eq.{bytes_eq-Decides}
use Rattle.wasm_ast.specs.Kept.{agree, all_agree}

-- x is an element of the list
abbrev pub In : {A : Type 0} → A → List A → Type 0
In x [] = ⊥
In x (y ∷ ys) = (y ≡ x) ⊎ In x ys

abbrev pub Pair : Type 0
Pair = List ℕ × List ℕ

-- the pairs ys so far and the pairs ps of a map: the same, and any two of them agree
pub record Tracks (ys ps : List Pair) : Type 0 where
  pub held : (a : Pair) → In a ys → In a ps
  pub only : (a : Pair) → In a ps → In a ys
  pub agreed : (a b : Pair) → In a ps → In b ps → a.0 ≡ b.0 → a.1 ≡ b.1

In-append : {A : Type 0} (x : A) (xs ys : List A) → In x (xs ++ ys) → In x xs ⊎ In x ys
In-append x [] ys i = inr i
In-append x (y ∷ xs) ys (inl e) = inl (inl e)
In-append x (y ∷ xs) ys (inr i) = elim (In-append x xs ys i) [ inl j ↦ inl (inr j) | inr j ↦ inr j ]

In-left : {A : Type 0} (x : A) (xs ys : List A) → In x xs → In x (xs ++ ys)
In-left x [] ys i = absurd i
In-left x (y ∷ xs) ys (inl e) = inl e
In-left x (y ∷ xs) ys (inr i) = inr (In-left x xs ys i)

In-right : {A : Type 0} (x : A) (xs ys : List A) → In x ys → In x (xs ++ ys)
In-right x [] ys i = i
In-right x (y ∷ xs) ys i = inr (In-right x xs ys i)

-- nothing so far
pub tracks-none : Tracks [] []
tracks-none = record { held = λ a i. i; only = λ a i. i; agreed = λ a b i j e. absurd i }

module _ (ys ps : List Pair) (t : Tracks ys ps) (x : Pair) where
  -- a pair that is there already
  pub tracks-again : In x ps → Tracks (ys ++ x ∷ []) ps
  tracks-again there = record {
    held = λ a i. elim (In-append a ys (x ∷ []) i) [ inl j ↦ t.held a j | inr j ↦ elim j [ inl e ↦ subst (λ z. In z ps) e there | inr k ↦ absurd k ] ];
    only = λ a i. In-left a ys (x ∷ []) (t.only a i);
    agreed = t.agreed;
  }

  -- a pair whose first is not there yet
  pub tracks-new : (qs : List Pair) → ((b : Pair) → In b ps → x.0 ≡ b.0 → ⊥) → ((a : Pair) → In a qs → (x ≡ a) ⊎ In a ps) → In x qs → ((a : Pair) → In a ps → In a qs) → Tracks (ys ++ x ∷ []) qs
  tracks-new qs fresh cases here stays = record {
    held = λ a i. elim (In-append a ys (x ∷ []) i) [ inl j ↦ stays a (t.held a j) | inr j ↦ elim j [ inl e ↦ subst (λ z. In z qs) e here | inr k ↦ absurd k ] ];
    only = λ a i. elim (cases a i) [ inl e ↦ In-right a ys (x ∷ []) (inl e) | inr j ↦ In-left a ys (x ∷ []) (t.only a j) ];
    agreed = λ a b i j e.
        elim (cases a i) [
          | inl p ↦ elim (cases b j) [ inl q ↦ ap (λ z. z.1) (sym p ∙ q) | inr q ↦ absurd (fresh b q (ap (λ z. z.0) p ∙ e)) ]
          | inr p ↦ elim (cases b j) [ inl q ↦ absurd (fresh a p (ap (λ z. z.0) q ∙ sym e)) | inr q ↦ t.agreed a b p q e ]
        ];
  }

-- a test of all elements, and of some that are known
all-in : {A : Type 0} (p : A → Bool) (xs : List A) → ((x : A) → In x xs → p x ≡ true) → list_all p xs ≡ true
all-in p [] each = refl
all-in p (x ∷ xs) each =
    let here : p x ≡ true = each x (inl refl) in
    let more : list_all p xs ≡ true = all-in p xs (λ y i. each y (inr i)) in
    rw (here, more) refl

and_left : (a b : Bool) → (a && b) ≡ true → a ≡ true
and_left true b e = refl
and_left false b e = e

and_right : (a b : Bool) → (a && b) ≡ true → b ≡ true
and_right true b e = e
and_right false b e = cc

in-all : {A : Type 0} (p : A → Bool) (xs : List A) (x : A) → In x xs → list_all p xs ≡ true → p x ≡ true
in-all p [] x i all = absurd i
in-all p (y ∷ ys) x (inl e) all = subst (λ z. p z ≡ true) e (and_left (p y) (list_all p ys) all)
in-all p (y ∷ ys) x (inr i) all = in-all p ys x i (and_right (p y) (list_all p ys) all)

-- two pairs agree where the firsts differ or the seconds are equal
implied : (q r : Bool) → (q ≡ true → r ≡ true) → (not q || r) ≡ true
implied true r h = h refl
implied false r h = refl

applied : (q r : Bool) → (not q || r) ≡ true → q ≡ true → r ≡ true
applied true r h e = h
applied false r h e = cc

agree-from : (a b : Pair) → (a.0 ≡ b.0 → a.1 ≡ b.1) → agree a b ≡ true
agree-from a b h =
    implied (bytes_eq a.0 b.0) (bytes_eq a.1 b.1) (λ e. (bytes_eq-Decides a.1 b.1).1 (h ((bytes_eq-Decides a.0 b.0).0 e)))

from-agree : (a b : Pair) → agree a b ≡ true → a.0 ≡ b.0 → a.1 ≡ b.1
from-agree a b h e =
    (bytes_eq-Decides a.1 b.1).0 (applied (bytes_eq a.0 b.0) (bytes_eq a.1 b.1) h ((bytes_eq-Decides a.0 b.0).1 e))

pub all_agree-from : (xs : List Pair) → ((a b : Pair) → In a xs → In b xs → a.0 ≡ b.0 → a.1 ≡ b.1) → all_agree xs ≡ true
all_agree-from xs each = all-in (λ a. list_all (agree a) xs) xs (λ a i. all-in (agree a) xs (λ b j. agree-from a b (each a b i j)))

pub from-all_agree : (xs : List Pair) → all_agree xs ≡ true → (a b : Pair) → In a xs → In b xs → a.0 ≡ b.0 → a.1 ≡ b.1
from-all_agree xs all a b i j = from-agree a b (in-all (agree a) xs b j (in-all (λ c. list_all (agree c) xs) xs a i all))

same_truth : (a b : Bool) → (a ≡ true → b ≡ true) → (b ≡ true → a ≡ true) → a ≡ b
same_truth true b f g = sym (f refl)
same_truth false true f g = g refl
same_truth false false f g = refl

-- two lists with the same pairs
pub all_agree-same : (xs ys : List Pair) → ((a : Pair) → In a xs → In a ys) → ((a : Pair) → In a ys → In a xs) → all_agree xs ≡ all_agree ys
all_agree-same xs ys to back =
    same_truth (all_agree xs) (all_agree ys)
    (λ all. all_agree-from ys (λ a b i j. from-all_agree xs all a b (back a i) (back b j)))
    (λ all. all_agree-from xs (λ a b i j. from-all_agree ys all a b (to a i) (to b j)))

-- what is tracked agrees
pub tracked_agree : (ys ps : List Pair) → Tracks ys ps → true ≡ all_agree ys
tracked_agree ys ps t = sym (all_agree-from ys (λ a b i j. t.agreed a b (t.held a i) (t.held b j)))

false_unless : (b : Bool) → (b ≡ true → ⊥) → false ≡ b
false_unless true h = absurd (h refl)
false_unless false h = refl

-- two pairs that do not agree
pub not_all_agree : (xs : List Pair) (a b : Pair) → In a xs → In b xs → a.0 ≡ b.0 → (a.1 ≡ b.1 → ⊥) → false ≡ all_agree xs
not_all_agree xs a b i j e apart = false_unless (all_agree xs) (λ all. apart (from-all_agree xs all a b i j e))

-- the items before a place, and the item there
pub In-take : {A : Type 0} (x : A) (n : ℕ) (xs : List A) → In x (take n xs) → In x xs
In-take x zero xs i = absurd i
In-take x (suc n) [] i = i
In-take x (suc n) (y ∷ xs) (inl e) = inl e
In-take x (suc n) (y ∷ xs) (inr j) = inr (In-take x n xs j)

pub In-get_or : {A : Type 0} (xs : List A) (i : ℕ) (d : A) → i < length xs → In (get_or xs i d) xs
In-get_or [] i d lt = let no : ⊥ = omega arith in absurd no
In-get_or (x ∷ xs) zero d lt = inl refl
In-get_or (x ∷ xs) (suc i) d lt = let less : i < length xs = omega arith in inr (In-get_or xs i d less)

pub In-map : {A B : Type 0} (f : A → B) (x : A) (xs : List A) → In x xs → In (f x) (map f xs)
In-map f x [] i = absurd i
In-map f x (y ∷ ys) (inl e) = inl (ap f e)
In-map f x (y ∷ ys) (inr i) = inr (In-map f x ys i)
