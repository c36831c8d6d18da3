-- Operators on one lane of n bits, beside those that integers have: chapter 4 of the standard, "Numerics", "Integer
-- Operations".
use Rattle.std.specs.Prelude.{ℕ, ◌+◌, ◌-◌, ◌/◌, ◌^◌, Bool, not, if◌then◌else◌, nat_eq, nat_lt, nat_le, min, ℤ, pos, negsuc, ◌+ℤ◌, ◌-ℤ◌, ◌*ℤ◌, int_lt, int_le, count_ones}
use Rattle.num_core.specs.Integers.{signed, unsigned, sub_of}

-- ineg_N
abbrev pub neg_of : ℕ → ℕ → ℕ
neg_of n i = sub_of n 0 i

-- iabs_N
abbrev pub abs_of : ℕ → ℕ → ℕ
abs_of n i = if nat_lt i (2 ^ (n - 1)) then i else neg_of n i

-- sat_s_N and sat_u_N: the nearest signed, or unsigned, number of n bits, as these bits
abbrev pub saturate_signed : ℕ → ℤ → ℕ
saturate_signed n i =
    if int_lt i (negsuc (2 ^ (n - 1) - 1))
    then 2 ^ (n - 1)
    else (if int_le (pos (2 ^ (n - 1))) i then 2 ^ (n - 1) - 1 else unsigned n i)

abbrev pub saturate_unsigned : ℕ → ℤ → ℕ
saturate_unsigned n (pos i) = min i (2 ^ n - 1)
saturate_unsigned n (negsuc i) = 0

-- iadd_sat_s_N, iadd_sat_u_N, isub_sat_s_N, isub_sat_u_N
abbrev pub add_sat_signed : ℕ → ℕ → ℕ → ℕ
add_sat_signed n i j = saturate_signed n (signed n i +ℤ signed n j)

abbrev pub add_sat_unsigned : ℕ → ℕ → ℕ → ℕ
add_sat_unsigned n i j = saturate_unsigned n (pos i +ℤ pos j)

abbrev pub sub_sat_signed : ℕ → ℕ → ℕ → ℕ
sub_sat_signed n i j = saturate_signed n (signed n i -ℤ signed n j)

abbrev pub sub_sat_unsigned : ℕ → ℕ → ℕ → ℕ
sub_sat_unsigned n i j = saturate_unsigned n (pos i -ℤ pos j)

-- comparisons of integers of n bits
abbrev pub equal : ℕ → ℕ → ℕ → Bool
equal n i j = nat_eq i j

abbrev pub unequal : ℕ → ℕ → ℕ → Bool
unequal n i j = not (nat_eq i j)

abbrev pub less_signed : ℕ → ℕ → ℕ → Bool
less_signed n i j = int_lt (signed n i) (signed n j)

abbrev pub less_unsigned : ℕ → ℕ → ℕ → Bool
less_unsigned n i j = nat_lt i j

abbrev pub most_signed : ℕ → ℕ → ℕ → Bool
most_signed n i j = int_le (signed n i) (signed n j)

abbrev pub most_unsigned : ℕ → ℕ → ℕ → Bool
most_unsigned n i j = nat_le i j

-- imin_s_N, imin_u_N, imax_s_N, imax_u_N
abbrev pub min_signed : ℕ → ℕ → ℕ → ℕ
min_signed n i j = if most_signed n i j then i else j

abbrev pub min_unsigned : ℕ → ℕ → ℕ → ℕ
min_unsigned n i j = if nat_le i j then i else j

abbrev pub max_signed : ℕ → ℕ → ℕ → ℕ
max_signed n i j = if most_signed n i j then j else i

abbrev pub max_unsigned : ℕ → ℕ → ℕ → ℕ
max_unsigned n i j = if nat_le i j then j else i

-- iavgr_u_N: the average, rounded up
abbrev pub average : ℕ → ℕ → ℕ → ℕ
average n i j = (i + j + 1) / 2

-- a number shifted to the right by k bits, rounded down
abbrev pub shifted_down : ℕ → ℤ → ℤ
shifted_down k (pos i) = pos (i / 2 ^ k)
shifted_down k (negsuc i) = negsuc (i / 2 ^ k)

-- iq15mulrsat_s_N: the product of fixed-point numbers with 15 fraction bits, rounded and saturated
abbrev pub q15_product : ℕ → ℕ → ℕ → ℕ
q15_product n i j = saturate_signed n (shifted_down 15 (signed n i *ℤ signed n j +ℤ pos (2 ^ 14)))

-- ipopcnt_N
abbrev pub ones : ℕ → ℕ → ℕ
ones n i = count_ones i
