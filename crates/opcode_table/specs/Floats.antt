-- The opcodes of instructions on floats: chapter 5 of the standard, "Memory Instructions" and "Numeric Instructions".
use Rattle.std.specs.Prelude.{ℕ, Bool, ◌&&◌, ◌||◌, nat_le}

-- an opcode from low to high
abbrev pub between : ℕ → ℕ → ℕ → Bool
between low high b = nat_le low b && nat_le b high

-- loads and stores of floats
unfoldable pub is_float_access : ℕ → Bool
is_float_access b = between 0x2A 0x2B b || between 0x38 0x39 b

-- instructions on floats without immediates
unfoldable pub is_float_operator : ℕ → Bool
is_float_operator b = between 0x5B 0x66 b || between 0x8B 0xA6 b || between 0xA8 0xAB b || between 0xAE 0xBF b
