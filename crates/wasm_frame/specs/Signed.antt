-- Two's complement: chapter 4 of the standard, "Sign Interpretation".
use Rattle.std.specs.Prelude.{ℕ, ◌-◌, ◌^◌, ◌<◌, suc, ℤ, pos, negsuc}

-- the w bits of a signed number, as a number from 0 to 2 ^ w - 1
abbrev pub bits_of : ℕ → ℤ → ℕ
bits_of w (pos n) = n
bits_of w (negsuc n) = 2 ^ w - suc n

-- from -2 ^ (w - 1) to 2 ^ (w - 1) - 1
abbrev pub FitsBits : ℕ → ℤ → Type 0
FitsBits w (pos n) = n < 2 ^ (w - 1)
FitsBits w (negsuc n) = n < 2 ^ (w - 1)
