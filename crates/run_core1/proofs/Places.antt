-- What stands for an item that is not there.
use Rattle.std.proofs.Common.{◌≡◌, ℕ, zero, suc, List, [], ◌∷◌, slice_get, get_or, None, refl}

pub not_there : {A : Type 0} (xs : List A) (i : ℕ) (d : A) → slice_get xs i ≡ None → d ≡ get_or xs i d
not_there [] zero d e = refl
not_there [] (suc i) d e = refl
not_there (x ∷ xs) zero d e = cc
not_there (x ∷ xs) (suc i) d e = not_there xs i d e
