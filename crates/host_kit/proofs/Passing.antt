-- The item of a kind with a place is found by passing those before it.
use Rattle.std.proofs.Common.{◌≡◌, ℕ, zero, suc, ◌+◌, ◌<◌, ◌≤◌, List, ◌∷◌, length, get_or, drop, Option, Some, None, is_some, slice_get, filter_map, refl, sym, ap, ◌∙◌}
use Rattle.std.specs.List.{cons_option}
use Rattle.std.proofs.Math.ListN.{drop_of_length-le}
use Rattle.std.proofs.lemmas.List.{drop_more}
use Rattle.host_kit.specs.FitTests.{passed}

module _ {A B : Type 0} (f : A → Option B) (xs : List A) where
  -- what is looked for is the item of the rest that has so many before it
  abbrev pub Rests : ℕ → ℕ → ℕ → Type 0
  Rests place i left = slice_get (filter_map f xs) place ≡ slice_get (filter_map f (drop i xs)) left

  goes : (x : A) (rest : List A) (left n : ℕ) (o : Option B) → f x ≡ o → passed (is_some o) left ≡ Some n → slice_get (filter_map f (x ∷ rest)) left ≡ slice_get (filter_map f rest) n
  goes x rest left n None e h =
      let same : left ≡ n = cc in
      ap (λ o. slice_get (cons_option o (filter_map f rest)) left) e ∙ ap (slice_get (filter_map f rest)) same
  goes x rest zero n (Some y) e h = cc
  goes x rest (suc left) n (Some y) e h =
      let same : left ≡ n = cc in
      ap (λ o. slice_get (cons_option o (filter_map f rest)) (suc left)) e ∙ ap (slice_get (filter_map f rest)) same

  ends : (x : A) (rest : List A) (left : ℕ) (o : Option B) → f x ≡ o → passed (is_some o) left ≡ None → slice_get (filter_map f (x ∷ rest)) left ≡ f x
  ends x rest left None e h = cc
  ends x rest zero (Some y) e h = ap (λ o. slice_get (cons_option o (filter_map f rest)) 0) e ∙ sym e
  ends x rest (suc left) (Some y) e h = cc

  pub rests_more : (place i left n : ℕ) (d : A) → i < length xs → passed (is_some (f (get_or xs i d))) left ≡ Some n → Rests place i left → Rests place (i + 1) n
  rests_more place i left n d within h r =
      r ∙ ap (λ l. slice_get (filter_map f l) left) (drop_more xs i d within) ∙ goes (get_or xs i d) (drop (i + 1) xs) left n (f (get_or xs i d)) refl h

  pub rests_there : (place i left : ℕ) (d : A) → i < length xs → passed (is_some (f (get_or xs i d))) left ≡ None → Rests place i left → slice_get (filter_map f xs) place ≡ f (get_or xs i d)
  rests_there place i left d within h r =
      r ∙ ap (λ l. slice_get (filter_map f l) left) (drop_more xs i d within) ∙ ends (get_or xs i d) (drop (i + 1) xs) left (f (get_or xs i d)) refl h

  pub rests_nowhere : (place i left : ℕ) → length xs ≤ i → Rests place i left → slice_get (filter_map f xs) place ≡ None
  rests_nowhere place i left past r = r ∙ ap (λ l. slice_get (filter_map f l) left) (drop_of_length-le xs past)
