-- Facts of lists to which one more item is added behind the others.
use Rattle.std.proofs.Common.{◌≡◌, ℕ, zero, suc, ◌+◌, max, Bool, true, false, ◌||◌, List, [], ◌∷◌, ◌++◌, length, take, drop, Some, refl, ap, arith}
use Rattle.std.specs.Prelude.{slice_get}
use Rattle.std.specs.List.{AllByRecursion, list_any}
use Rattle.std.proofs.Math.Bool.{or-false}
use Rattle.grammar_kit.specs.Measures.{greatest}
use Rattle.wasm_frame.specs.Payloads.{FirstWithout}

module _ {X : Type 0} (P : X → Type 0) where
  pub all_more : (xs : List X) (x : X) → AllByRecursion P xs → P x → AllByRecursion P (xs ++ x ∷ [])
  all_more [] x h p = (p, tt)
  all_more (y ∷ xs) x h p = (h.0, all_more xs x h.1 p)

  -- the first without the property is the first still
  pub first_more : (xs : List X) (x : X) (i : ℕ) → FirstWithout P xs i → FirstWithout P (xs ++ x ∷ []) i
  first_more [] x i h = absurd h
  first_more (y ∷ xs) x zero h = h
  first_more (y ∷ xs) x (suc i) h = (h.0, first_more xs x i h.1)

  -- it is the item behind the others, where they have it
  pub first_behind : (xs : List X) (x : X) → AllByRecursion P xs → ¬ P x → FirstWithout P (xs ++ x ∷ []) (length xs)
  first_behind [] x all wrong = wrong
  first_behind (y ∷ xs) x all wrong = (all.0, first_behind xs x all.1 wrong)

  -- whatever follows
  pub first_in_front : (xs ys : List X) (i : ℕ) → FirstWithout P xs i → FirstWithout P (xs ++ ys) i
  first_in_front [] ys i h = absurd h
  first_in_front (x ∷ xs) ys zero h = h
  first_in_front (x ∷ xs) ys (suc i) h = (h.0, first_in_front xs ys i h.1)

module _ {X : Type 0} (size : X → ℕ) where
  pub greatest_more : (xs : List X) (x : X) → greatest size (xs ++ x ∷ []) ≡ max (greatest size xs) (size x)
  greatest_more [] x = omega arith
  greatest_more (y ∷ xs) x = omega (arith, greatest_more xs x)

pub any_more : {X : Type 0} (test : X → Bool) (xs : List X) (x : X) → list_any test (xs ++ x ∷ []) ≡ (list_any test xs || test x)
any_more test [] x = or-false (test x)
any_more test (y ∷ xs) x = step (test y) (any_more test xs x)
  where
    step : (first : Bool) → list_any test (xs ++ x ∷ []) ≡ (list_any test xs || test x) → (first || list_any test (xs ++ x ∷ [])) ≡ ((first || list_any test xs) || test x)
    step true others = refl
    step false others = others

-- the item behind those in front
pub take_next : {X : Type 0} (xs : List X) (i : ℕ) (x : X) (more : List X) → drop i xs ≡ x ∷ more → take (suc i) xs ≡ take i xs ++ x ∷ []
take_next [] zero x more e = absurd cc
take_next [] (suc i) x more e = absurd cc
take_next (y ∷ xs) zero x more e = let same : y ≡ x = cc in ap (λ z. z ∷ []) same
take_next (y ∷ xs) (suc i) x more e = ap (λ ys. y ∷ ys) (take_next xs i x more e)

module _ {X : Type 0} (P : X → Type 0) where
  -- it is the first without the property, where those in front have it
  pub first_at : (xs : List X) (i : ℕ) (x : X) (more : List X) → AllByRecursion P (take i xs) → drop i xs ≡ x ∷ more → ¬ P x → FirstWithout P xs i
  first_at [] zero x more all e wrong = absurd cc
  first_at [] (suc i) x more all e wrong = absurd cc
  first_at (y ∷ xs) zero x more all e wrong = let same : y ≡ x = cc in rw same wrong
  first_at (y ∷ xs) (suc i) x more all e wrong = (all.0, first_at xs i x more all.1 e wrong)

  -- the first of the others is the first of all, where those in front have it
  pub first_of_others : (xs ys : List X) (i : ℕ) → AllByRecursion P xs → FirstWithout P ys i → FirstWithout P (xs ++ ys) (length xs + i)
  first_of_others [] ys i all h = let at : length {A = X} [] + i ≡ i = omega arith in rw at h
  first_of_others (x ∷ xs) ys i all h = let at : length (x ∷ xs) + i ≡ suc (length xs + i) = omega arith in rw at (all.0, first_of_others xs ys i all.1 h)

  pub all_both : (xs ys : List X) → AllByRecursion P xs → AllByRecursion P ys → AllByRecursion P (xs ++ ys)
  all_both [] ys h k = k
  all_both (x ∷ xs) ys h k = (h.0, all_both xs ys h.1 k)

  pub not_all : (xs : List X) (i : ℕ) → FirstWithout P xs i → AllByRecursion P xs → ⊥
  not_all [] i h all = h
  not_all (x ∷ xs) zero h all = h all.0
  not_all (x ∷ xs) (suc i) h all = not_all xs i h.1 all.1

  pub one_first : (xs : List X) (i j : ℕ) → FirstWithout P xs i → FirstWithout P xs j → i ≡ j
  one_first [] i j h k = absurd h
  one_first (x ∷ xs) zero zero h k = refl
  one_first (x ∷ xs) zero (suc j) h k = absurd (h k.0)
  one_first (x ∷ xs) (suc i) zero h k = absurd (k h.0)
  one_first (x ∷ xs) (suc i) (suc j) h k = ap suc (one_first xs i j h.1 k.1)

-- a place among those in front, and one among the others
pub place_in_front : {X : Type 0} (xs ys : List X) (i : ℕ) (x : X) → slice_get xs i ≡ Some x → slice_get (xs ++ ys) i ≡ Some x
place_in_front [] ys i x e = absurd cc
place_in_front (a ∷ xs) ys zero x e = e
place_in_front (a ∷ xs) ys (suc i) x e = place_in_front xs ys i x e

pub place_of_others : {X : Type 0} (xs ys : List X) (i : ℕ) → slice_get (xs ++ ys) (length xs + i) ≡ slice_get ys i
place_of_others {X = X} [] ys i = let at : length {A = X} [] + i ≡ i = omega arith in rw at refl
place_of_others (x ∷ xs) ys i = let at : length (x ∷ xs) + i ≡ suc (length xs + i) = omega arith in rw at (place_of_others xs ys i)
