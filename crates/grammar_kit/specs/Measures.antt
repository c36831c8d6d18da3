-- What a form reads, seen through a function: how much is there, without keeping it.
use Rattle.std.specs.Prelude.{ℕ, max, List, [], ◌∷◌, sum_by, Option, option_map}

-- what was read, seen through a function
abbrev pub through : {X Y : Type 0} → (X → Y) → Option (X × List ℕ) → Option (Y × List ℕ)
through f read = option_map (λ p. (f p.0, p.1)) read

-- the greatest size of the items, 0 where there is none
abbrev pub greatest : {X : Type 0} → (X → ℕ) → List X → ℕ
greatest size [] = 0
greatest size (x ∷ xs) = max (size x) (greatest size xs)

-- the greatest of the items' sizes, and their sum
abbrev pub extent : {X : Type 0} → (X → ℕ) → List X → ℕ × ℕ
extent size xs = (greatest size xs, sum_by size xs)
