-- A list with one item put last.
use Rattle.std.proofs.Common.{◌≡◌, ℕ, zero, suc, ◌⊎◌, inl, inr, List, [], ◌∷◌, ◌++◌, length, Some, refl, ap}
use Rattle.std.specs.Prelude.{slice_get}
use Rattle.std.proofs.lemmas.Option.{same_Some}

module _ {X : Type 0} (y : X) where
  pub still_at : (xs : List X) (i : ℕ) (x : X) → slice_get xs i ≡ Some x → slice_get (xs ++ y ∷ []) i ≡ Some x
  still_at [] i x e = cc
  still_at (z ∷ zs) zero x e = e
  still_at (z ∷ zs) (suc i) x e = still_at zs i x e

  pub at_last : (xs : List X) → slice_get (xs ++ y ∷ []) (length xs) ≡ Some y
  at_last [] = refl
  at_last (z ∷ zs) = at_last zs

  pub from_pushed : (xs : List X) (i : ℕ) (x : X) → slice_get (xs ++ y ∷ []) i ≡ Some x → (slice_get xs i ≡ Some x) ⊎ ((i ≡ length xs) × (y ≡ x))
  from_pushed [] zero x e = inr (refl, same_Some y x e)
  from_pushed [] (suc i) x e = cc
  from_pushed (z ∷ zs) zero x e = inl e
  from_pushed (z ∷ zs) (suc i) x e = elim (from_pushed zs i x e) [ inl p ↦ inl p | inr p ↦ inr (ap suc p.0, p.1) ]
