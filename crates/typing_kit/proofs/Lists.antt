-- Lists that are read from their end.
use Rattle.std.proofs.Common.{◌≡◌, ℕ, ◌+◌, ◌-◌, ◌≤◌, ◌<◌, min, List, [], ◌∷◌, ◌++◌, length, get_or, take, drop, reverse, map, refl, ap, sym, ◌∙◌, arith}
use Rattle.std.proofs.lemmas.List.{reverse-append, length-reverse, take-append-drop, drop_at, drop_all, length-drop, drop-take, get_or-reverse, drop-append-le, take-take, map-append}
use native.Mathlib.Decide.{dec_le}

module _ {X : Type 0} where
  -- the list from its end on is as long
  reversed_rest_within : (n : ℕ) (xs : List X) → n ≤ length xs → drop n (reverse xs) ≡ reverse (take (length xs - n) xs)
  reversed_rest_within n xs h =
      let m = length xs - n in
      let parts : reverse xs ≡ reverse (drop m xs) ++ reverse (take m xs) = ap reverse (sym (take-append-drop m xs)) ∙ reverse-append (take m xs) (drop m xs) in
      let len : length (reverse (drop m xs)) ≡ n = omega (arith, length-reverse (drop m xs), length-drop m xs) in
      ap (drop n) parts ∙ drop_at (reverse (drop m xs)) (reverse (take m xs)) n len

  -- without its last ones, from the end
  pub reversed_rest : (n : ℕ) (xs : List X) → drop n (reverse xs) ≡ reverse (take (length xs - n) xs)
  reversed_rest n xs = elim (dec_le n (length xs)) [
    | yes h ↦ reversed_rest_within n xs h
    | no h ↦
        let none : length xs - n ≡ 0 = omega arith in
        drop_all n (reverse xs) (omega (arith, length-reverse xs)) ∙ ap (λ k. reverse (take k xs)) (sym none)
  ]

  pub reverse-cons : (x : X) (xs : List X) → reverse (x ∷ xs) ≡ reverse xs ++ x ∷ []
  reverse-cons x xs = reverse-append (x ∷ []) xs

  -- what lies above a base, without its last ones
  pub above_taken : (xs : List X) (base count kept : ℕ) → base ≤ length xs → kept ≡ length xs - min (length xs - base) count → reverse (drop base (take kept xs)) ≡ drop count (reverse (drop base xs))
  above_taken xs base count kept h e =
      let own = length xs - base in
      let m : kept ≡ base + (length (drop base xs) - count) = omega (arith, length-drop base xs) in
      ap (λ k. reverse (drop base (take k xs))) m
      ∙ ap reverse (drop-take base (length (drop base xs) - count) xs)
      ∙ sym (reversed_rest count (drop base xs))

  pub below_taken : (xs : List X) (base count kept : ℕ) → base ≤ length xs → kept ≡ length xs - min (length xs - base) count → take base (take kept xs) ≡ take base xs
  below_taken xs base count kept h e = take-take base kept xs (omega arith)

  pub above_appended : (xs ys : List X) (base : ℕ) → base ≤ length xs → reverse (drop base (xs ++ ys)) ≡ reverse ys ++ reverse (drop base xs)
  above_appended xs ys base h = ap reverse (drop-append-le base xs ys h) ∙ reverse-append (drop base xs) ys

  pub at_from_end : (xs : List X) (k : ℕ) (d : X) → k < length xs → get_or (reverse xs) k d ≡ get_or xs (length xs - 1 - k) d
  at_from_end xs k d h = get_or-reverse xs k d h

module _ {X Y : Type 0} (f : X → Y) where
  pub map-reverse : (xs : List X) → map f (reverse xs) ≡ reverse (map f xs)
  map-reverse [] = refl
  map-reverse (x ∷ xs) = ap (map f) (reverse-cons x xs) ∙ map-append f (reverse xs) (x ∷ []) ∙ ap (λ l. l ++ f x ∷ []) (map-reverse xs) ∙ sym (reverse-cons (f x) (map f xs))
