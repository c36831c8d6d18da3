-- How deep the nodes of a list are: no deeper than the deepest.
use Rattle.std.proofs.Common.{◌≡◌, ℕ, ◌≤◌, List, ◌∷◌, arith, sym, subst}
use denote.Param.Weighed.{most}

module _ {X : Type 0} (depth : X → ℕ) (x : X) (xs all : List X) (e : all ≡ x ∷ xs) where
  pub first_no_deeper : depth x ≤ most depth all
  first_no_deeper = subst (λ l. depth x ≤ most depth l) (sym e) (omega arith)

  pub others_no_deeper : most depth xs ≤ most depth all
  others_no_deeper = subst (λ l. most depth xs ≤ most depth l) (sym e) (omega arith)
