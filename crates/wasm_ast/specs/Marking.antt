-- Numbers kept as flags: those in a list are set.
use Rattle.std.specs.Prelude.{ℕ, ◌+◌, Bool, true, false, cond, List, [], ◌∷◌, slice_set, slice_get, unwrap_or}

-- the flags after each number of the list is set; one that is out of range changes nothing
abbrev pub marked : List ℕ → List Bool → List Bool
marked [] flags = flags
marked (x ∷ xs) flags = marked xs (slice_set flags x true)

-- whether a number is set
abbrev pub is_marked : List Bool → ℕ → Bool
is_marked flags n = unwrap_or (slice_get flags n) false

-- the items whose number is set, where the first has the number n
abbrev pub marked_items : {A : Type 0} → List Bool → ℕ → List A → List A
marked_items flags n [] = []
marked_items flags n (x ∷ xs) = cond (is_marked flags n) (x ∷ marked_items flags (n + 1) xs) (marked_items flags (n + 1) xs)
