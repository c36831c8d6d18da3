-- What the payloads of sections spell, and which is the first that is wrong.
use Rattle.std.specs.Prelude.{◌≡◌, ℕ, zero, suc, List, [], ◌∷◌, length, Option, Some, None, MatchOption, ◌==◌, if◌then◌else◌, sum_by, option_and_then, unwrap_or}
use Rattle.grammar_kit.specs.Form.{Form, always, ◌>>=◌}
use Rattle.grammar_kit.specs.Measures.{greatest}
use Rattle.grammar_kit.specs.Sequences.{whole}
use Rattle.wasm_frame.specs.Frame.{Part}
use Rattle.wasm_frame.specs.Leb128.{u32}

-- the payload of the section of an id, if there is one
abbrev pub payload_of : ℕ → List Part → Option (List ℕ)
payload_of id [] = None
payload_of id (s ∷ more) = if s.id == id then Some s.payload else payload_of id more

-- the section of an id spells this value. Where there is no such section, it is the value of none
abbrev pub Content : {X : Type 0} → ℕ → Form X → X → List Part → X → Type 0
Content id f none parts x = MatchOption (payload_of id parts) (x ≡ none) (λ payload. f.text payload x)

-- some value is spelled by all of the bytes
abbrev pub IsSpelled : {X : Type 0} → Form X → List ℕ → Type 0
IsSpelled f b = (x : _) × f.text b x

-- some value is read of all of the bytes
abbrev pub IsRead : {X : Type 0} → Form X → List ℕ → Type 0
IsRead f b = (x : _) × (whole (f.read b) ≡ Some x)

-- what a payload is read as, or the value of none
abbrev pub value : {X : Type 0} → Form X → X → Option (List ℕ) → X
value f none payload = unwrap_or (option_and_then (λ p. whole (f.read p)) payload) none

-- a number that is there, where its section is
abbrev pub optional : Form (Option ℕ)
optional = u32 >>= λ n. always (Some n)

-- the items of two lists are related, each to the one at its place
abbrev pub Each : {X Y : Type 0} → (X → Y → Type 0) → List X → List Y → Type 0
Each R [] [] = Unit {0}
Each R [] (y ∷ ys) = ⊥
Each R (x ∷ xs) [] = ⊥
Each R (x ∷ xs) (y ∷ ys) = R x y × Each R xs ys

-- the item at this place is the first of which a fact does not hold
abbrev pub FirstWithout : {X : Type 0} → (X → Type 0) → List X → ℕ → Type 0
FirstWithout P [] i = ⊥
FirstWithout P (x ∷ xs) zero = ¬ P x
FirstWithout P (x ∷ xs) (suc i) = P x × FirstWithout P xs i

-- how many entries there are, the greatest of their sizes, and the sum of the sizes
abbrev pub counted : {X : Type 0} → (X → ℕ) → List X → ℕ × ℕ × ℕ
counted size xs = (length xs, greatest size xs, sum_by size xs)
