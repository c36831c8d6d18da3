-- At most one item of a list gives something exactly where none gives something after another.
use Rattle.std.proofs.Common.{◌≡◌, ℕ, zero, suc, ◌≤◌, List, [], ◌∷◌, length, take, filter_map, Option, Some, None, slice_get, refl, ap, ◌∙◌, arith}
use Rattle.std.specs.List.{cons_option}

module _ {X Y : Type 0} (g : X → Option Y) where
  abbrev pub given : List X → ℕ
  given xs = length (filter_map g xs)

  given-some : (x : X) (xs : List X) (y : Y) → g x ≡ Some y → given (x ∷ xs) ≡ suc (given xs)
  given-some x xs y e = ap (λ o. length (cons_option o (filter_map g xs))) e

  given-none : (x : X) (xs : List X) → g x ≡ None → given (x ∷ xs) ≡ given xs
  given-none x xs e = ap (λ o. length (cons_option o (filter_map g xs))) e

  none_at : (x : X) (xs : List X) (o : Option Y) → g x ≡ o → given xs ≡ 0 → ((y : Y) → g x ≡ Some y → ⊥) → given (x ∷ xs) ≡ 0
  none_at x xs None e r h = given-none x xs e ∙ r
  none_at x xs (Some y) e r h = absurd (h y e)

  no_given : (xs : List X) → ((k : ℕ) (x : X) (y : Y) → slice_get xs k ≡ Some x → g x ≡ Some y → ⊥) → given xs ≡ 0
  no_given [] h = refl
  no_given (x ∷ xs) h = none_at x xs (g x) refl (no_given xs (λ k z y a b. h (suc k) z y a b)) (λ y e. h 0 x y refl e)

  -- nothing is given before an item that gives something
  abbrev pub IsFirstGiven : List X → Type 0
  IsFirstGiven xs = (k : ℕ) (x : X) (y : Y) → slice_get xs k ≡ Some x → g x ≡ Some y → given (take k xs) ≡ 0

  first_at : (x : X) (xs : List X) (o : Option Y) → g x ≡ o → (IsFirstGiven xs → given xs ≤ 1) → IsFirstGiven (x ∷ xs) → given (x ∷ xs) ≤ 1
  first_at x xs None e r h =
      let t = r (λ k z y a b. (let f = h (suc k) z y a b in let s = given-none x (take k xs) e in omega arith)) in
      let s = given-none x xs e in omega arith
  first_at x xs (Some y) e r h =
      let none = no_given xs (λ k z w a b. (let f = h (suc k) z w a b in let s = given-some x (take k xs) y e in absurd (omega arith))) in
      let s = given-some x xs y e in omega arith

  pub first_only : (xs : List X) → IsFirstGiven xs → given xs ≤ 1
  first_only [] h = omega arith
  first_only (x ∷ xs) h = first_at x xs (g x) refl (λ k. first_only xs k) h

  before_at : (z : X) (xs : List X) (k : ℕ) (o : Option Y) → g z ≡ o → suc (given (take k xs)) ≤ given xs → suc (given (take (suc k) (z ∷ xs))) ≤ given (z ∷ xs)
  before_at z xs k None e r = let s = given-none z xs e in let t = given-none z (take k xs) e in omega arith
  before_at z xs k (Some w) e r = let s = given-some z xs w e in let t = given-some z (take k xs) w e in omega arith

  given_before : (xs : List X) (k : ℕ) (x : X) (y : Y) → slice_get xs k ≡ Some x → g x ≡ Some y → suc (given (take k xs)) ≤ given xs
  given_before [] k x y a b = let no : ⊥ = cc in absurd no
  given_before (z ∷ xs) zero x y a b = let same : z ≡ x = cc in let s = given-some z xs y (ap g same ∙ b) in omega arith
  given_before (z ∷ xs) (suc k) x y a b = before_at z xs k (g z) refl (given_before xs k x y a b)

  -- and back
  pub only_first : (xs : List X) → given xs ≤ 1 → IsFirstGiven xs
  only_first xs h k x y a b = let r = given_before xs k x y a b in omega arith
