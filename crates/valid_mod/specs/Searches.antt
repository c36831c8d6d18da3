-- What a search through the parts of a section finds.
use Rattle.std.specs.Prelude.{ℕ, ◌<◌, List, Option, Some, None, IfSome, slice_get}

-- the first place, among so many, at which the fact does not hold
abbrev pub Finds : (ℕ → Type 0) → ℕ → Option ℕ → Type 0
Finds P n None = (k : ℕ) → k < n → P k
Finds P n (Some place) = (place < n) × ((k : ℕ) → k < place → P k) × (P place → ⊥)

-- the fact of the item at a place
abbrev pub At : {X : Type 0} → List X → (X → Type 0) → ℕ → Type 0
At xs P k = IfSome (slice_get xs k) P
