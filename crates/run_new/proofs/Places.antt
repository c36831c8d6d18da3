-- The item at a place, and what stands for one that is not there.
use Rattle.std.proofs.Common.{◌≡◌, ℕ, zero, suc, List, [], ◌∷◌, slice_get, slice_index_or, Option, Some, None, option_map, refl, sym, ap, ◌∙◌, Bor}

pub there : {A : Type 0} (xs : List A) (i : ℕ) (d y : A) → slice_get xs i ≡ Some y → y ≡ slice_index_or xs i d
there [] zero d y e = cc
there [] (suc i) d y e = cc
there (x ∷ xs) zero d y e = cc
there (x ∷ xs) (suc i) d y e = there xs i d y e

pub not_there : {A : Type 0} (xs : List A) (i : ℕ) (d : A) → slice_get xs i ≡ None → d ≡ slice_index_or xs i d
not_there [] zero d e = refl
not_there [] (suc i) d e = refl
not_there (x ∷ xs) zero d e = cc
not_there (x ∷ xs) (suc i) d e = not_there xs i d e

-- the same, by an answer that may be borrowed
pub borrowed_there : (xs : List (List ℕ)) (i : ℕ) (o : Option (Bor (List ℕ))) (b : Bor (List ℕ)) → option_map (λ r. r.now) o ≡ slice_get xs i → o ≡ Some b → b.now ≡ slice_index_or xs i []
borrowed_there xs i o b e is = there xs i [] b.now (sym e ∙ ap (option_map (λ (r : Bor (List ℕ)). r.now)) is)

pub borrowed_not_there : (xs : List (List ℕ)) (i : ℕ) (o : Option (Bor (List ℕ))) (d : List ℕ) → option_map (λ r. r.now) o ≡ slice_get xs i → o ≡ None → d ≡ [] → d ≡ slice_index_or xs i []
borrowed_not_there xs i o d e is ed = ed ∙ not_there xs i [] (sym e ∙ ap (option_map (λ (r : Bor (List ℕ)). r.now)) is)
