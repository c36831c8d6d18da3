-- Integers of the binary format in LEB128: chapter 5 of the standard, "Values", "Integers". A number of w bits stands
-- here as its bits, from 0 to 2 ^ w - 1: a signed one as its two's complement (`Signed`).
use Rattle.std.specs.Prelude.{◌≡◌, ℕ, ◌+◌, ◌-◌, ◌*◌, ◌^◌, ◌<◌, ◌≤◌, ◌⊎◌, ◌&&◌, List, [], ◌∷◌, ◌++◌, length, take, Option, Some, None, option_map, nat_lt, nat_le, if◌then◌else◌}
use Rattle.grammar_kit.specs.Form.{Form}
use Rattle.wasm_frame.specs.declared.leb128.Sign.{Sign}
use Rattle.wasm_frame.specs.declared.leb128.Sign.TheVariants.{Unsigned, Signed}

-- a last byte b spells the number n of w bits. Its bits past the w-th are zeros, or copies of the sign
abbrev pub Last : Sign → ℕ → ℕ → ℕ → Type 0
Last Unsigned w b n = (b < 128) × (n ≡ b) × (n < 2 ^ w)
Last Signed w b n =
    ((b < 64) × (n ≡ b) × (n < 2 ^ (w - 1)))
    ⊎ ((64 ≤ b) × (b < 128) × (n + 128 ≡ b + 2 ^ w) × (2 ^ (w - 1) ≤ n))

-- these bytes spell the number n of w bits: a last byte, or the seven low bits and then the bits above them. Spellings
-- may be longer than they need be, but not longer than w bits ask for
unfoldable pub Leb : Sign → ℕ → List ℕ → ℕ → Type 0
Leb sign w [] n = ⊥
Leb sign w (b ∷ bs) n =
    ((bs ≡ []) × Last sign w b n)
    ⊎ ((128 ≤ b) × (b < 256) × (7 < w) × (high : ℕ) × (n + 128 ≡ b + 128 * high) × Leb sign (w - 7) bs high)

-- the number that a last byte spells, if it spells one of w bits
abbrev pub last_value : Sign → ℕ → ℕ → Option ℕ
last_value Unsigned w b = if nat_lt b (2 ^ w) then Some b else None
last_value Signed w b =
    if nat_lt b 64
    then (if nat_lt b (2 ^ (w - 1)) then Some b else None)
    else (if nat_le 128 (b + 2 ^ (w - 1)) then Some (b + 2 ^ w - 128) else None)

-- the number at the front, and the bytes after it
unfoldable pub read_leb : Sign → ℕ → List ℕ → Option (ℕ × List ℕ)
read_leb sign w [] = None
read_leb sign w (b ∷ bs) =
    if nat_lt b 128
    then option_map (λ n. (n, bs)) (last_value sign w b)
    else (if nat_lt b 256 && nat_lt 7 w then option_map (λ p. (b - 128 + 128 * p.0, p.1)) (read_leb sign (w - 7) bs) else None)

abbrev pub integer : Sign → ℕ → Form ℕ
integer sign w = record { text = Leb sign w; read = read_leb sign w }

-- a number whose first byte k was read already, where that byte decides that a number stands here
abbrev pub integer_after : ℕ → Sign → ℕ → Form ℕ
integer_after k sign w = record { text = λ b n. Leb sign w (k ∷ b) n; read = λ b. read_leb sign w (k ∷ b) }

abbrev pub u32 : Form ℕ
u32 = integer Unsigned 32

abbrev pub u64 : Form ℕ
u64 = integer Unsigned 64

abbrev pub s32 : Form ℕ
s32 = integer Signed 32

abbrev pub s64 : Form ℕ
s64 = integer Signed 64

abbrev pub s33 : Form ℕ
s33 = integer Signed 33

-- the first len bytes spell n
abbrev pub IsAtFront : Sign → ℕ → List ℕ → ℕ → ℕ → Type 0
IsAtFront sign w bytes n len = (len ≤ length bytes) × Leb sign w (take len bytes) n

-- these bytes spell n, and no spelling of n has fewer
pub record IsShortest (sign : Sign) (w : ℕ) (bytes : List ℕ) (n : ℕ) : Type 0 where
  pub spells : Leb sign w bytes n
  pub least : (others : List ℕ) → Leb sign w others n → length bytes ≤ length others

-- new is old with the shortest spelling of n behind it
abbrev pub AppendsShortest : Sign → ℕ → List ℕ → List ℕ → ℕ → Type 0
AppendsShortest sign w old new n = (t : List ℕ) × (new ≡ old ++ t) × IsShortest sign w t n
