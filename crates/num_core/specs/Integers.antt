-- Integers and their operators over whole numbers: chapter 4 of the standard, "Numerics", "Integer Operations".
-- An integer of N bits is a number below 2 ^ N. A signed reading maps the upper half to the negative numbers.
use Rattle.std.specs.Prelude.{ℕ, suc, ◌+◌, ◌-◌, ◌*◌, ◌/◌, ◌%◌, ◌^◌, Bool, not, Option, Some, None, nat_eq, nat_lt, nat_le, int_lt, int_le, int_div, int_rem, ℤ, pos, negsuc, bit_and, bit_or, bit_xor, count_ones, if◌then◌else◌}
use Rattle.std.specs.Int.Count.{count_leading_zeros, count_trailing_zeros}
use Rattle.num_core.specs.declared.operators.Width.{Width}
use Rattle.num_core.specs.declared.operators.Width.TheVariants.{W32, W64}
use Rattle.num_core.specs.declared.operators.Bin.{Bin}
use Rattle.num_core.specs.declared.operators.Bin.TheVariants.{Add, Sub, Mul, DivS, DivU, RemS, RemU, And, Or, Xor, Shl, ShrS, ShrU, Rotl, Rotr}
use Rattle.num_core.specs.declared.operators.Un.{Un}
use Rattle.num_core.specs.declared.operators.Un.TheVariants.{Clz, Ctz, Popcnt}
use Rattle.num_core.specs.declared.operators.Cmp.{Cmp}
use Rattle.num_core.specs.declared.operators.Cmp.TheVariants.{Eq, Ne, LtS, LtU, GtS, GtU, LeS, LeU, GeS, GeU}
use Rattle.num_core.specs.declared.operators.Conv.{Conv}
use Rattle.num_core.specs.declared.operators.Conv.TheVariants.{Wrap, Ext32S, Ext32U, S8of32, S16of32, S8of64, S16of64, S32of64}

-- how many bits an integer of this width has
abbrev pub bits : Width → ℕ
bits W32 = 32
bits W64 = 64

-- signed_N, and the number of N bits that has a signed value
abbrev pub signed : ℕ → ℕ → ℤ
signed n i = if nat_lt i (2 ^ (n - 1)) then pos i else negsuc (2 ^ n - suc i)

abbrev pub unsigned : ℕ → ℤ → ℕ
unsigned n (pos i) = i
unsigned n (negsuc i) = 2 ^ n - suc i

-- i mod 2^N
abbrev pub wrap : ℕ → ℕ → ℕ
wrap n i = i % 2 ^ n

-- extend^s from M bits to N bits: the number of N bits that has the signed value of the M bits
abbrev pub extend_signed : ℕ → ℕ → ℕ → ℕ
extend_signed m n i = if nat_lt i (2 ^ (m - 1)) then i else i + (2 ^ n - 2 ^ m)

-- iadd_N, isub_N, imul_N
abbrev pub add_of : ℕ → ℕ → ℕ → ℕ
add_of n i j = wrap n (i + j)

abbrev pub sub_of : ℕ → ℕ → ℕ → ℕ
sub_of n i j = wrap n (i + (2 ^ n - j))

abbrev pub mul_of : ℕ → ℕ → ℕ → ℕ
mul_of n i j = wrap n (i * j)

-- idiv_u_N and irem_u_N: none by 0
abbrev pub div_unsigned : ℕ → ℕ → Option ℕ
div_unsigned i j = if nat_eq j 0 then None else Some (i / j)

abbrev pub rem_unsigned : ℕ → ℕ → Option ℕ
rem_unsigned i j = if nat_eq j 0 then None else Some (i % j)

-- idiv_s_N: the quotient of the signed numbers, rounded toward zero; none by 0, and none for 2^(N-1), which is no
-- signed number of N bits
abbrev pub div_signed : ℕ → ℕ → ℕ → Option ℕ
div_signed n i j =
    if nat_eq j 0
    then None
    else (let quotient = int_div (signed n i) (signed n j) in
    if int_le (pos (2 ^ (n - 1))) quotient then None else Some (unsigned n quotient))

-- irem_s_N: the remainder of the signed numbers, with the sign of the first; none by 0
abbrev pub rem_signed : ℕ → ℕ → ℕ → Option ℕ
rem_signed n i j = if nat_eq j 0 then None else Some (unsigned n (int_rem (signed n i) (signed n j)))

-- ishl_N: the count modulo N, then i times two to the count, modulo 2^N
abbrev pub shift_left : ℕ → ℕ → ℕ → ℕ
shift_left n i j = wrap n (i * 2 ^ (j % n))

-- ishr_s_N: the count modulo N, then the bits shifted right, with copies of the sign above them
abbrev pub shift_right_signed : ℕ → ℕ → ℕ → ℕ
shift_right_signed n i j = extend_signed (n - j % n) n (i / 2 ^ (j % n))

-- ishr_u_N: the count modulo N, then the bits shifted right, with zeros above them
abbrev pub shift_right_unsigned : ℕ → ℕ → ℕ → ℕ
shift_right_unsigned n i j = i / 2 ^ (j % n)

-- irotl_N and irotr_N: the count modulo N; the bits that leave at one end come in at the other
abbrev pub rotate_left : ℕ → ℕ → ℕ → ℕ
rotate_left n i j = wrap n (i * 2 ^ (j % n)) + i / 2 ^ (n - j % n)

abbrev pub rotate_right : ℕ → ℕ → ℕ → ℕ
rotate_right n i j = i / 2 ^ (j % n) + wrap n (i * 2 ^ (n - j % n))

-- the value of a binary operator, or none where the instruction traps
abbrev pub binary : Width → Bin → ℕ → ℕ → Option ℕ
binary w Add i j = Some (add_of (bits w) i j)
binary w Sub i j = Some (sub_of (bits w) i j)
binary w Mul i j = Some (mul_of (bits w) i j)
binary w DivS i j = div_signed (bits w) i j
binary w DivU i j = div_unsigned i j
binary w RemS i j = rem_signed (bits w) i j
binary w RemU i j = rem_unsigned i j
binary w And i j = Some (bit_and i j)
binary w Or i j = Some (bit_or i j)
binary w Xor i j = Some (bit_xor i j)
binary w Shl i j = Some (shift_left (bits w) i j)
binary w ShrS i j = Some (shift_right_signed (bits w) i j)
binary w ShrU i j = Some (shift_right_unsigned (bits w) i j)
binary w Rotl i j = Some (rotate_left (bits w) i j)
binary w Rotr i j = Some (rotate_right (bits w) i j)

-- the value of a unary operator
abbrev pub unary : Width → Un → ℕ → ℕ
unary w Clz i = count_leading_zeros (bits w) i
unary w Ctz i = count_trailing_zeros (bits w) i
unary w Popcnt i = count_ones i

-- ieqz_N
abbrev pub is_zero : ℕ → Bool
is_zero i = nat_eq i 0

-- whether a comparison holds
abbrev pub compares : Width → Cmp → ℕ → ℕ → Bool
compares w Eq i j = nat_eq i j
compares w Ne i j = not (nat_eq i j)
compares w LtS i j = int_lt (signed (bits w) i) (signed (bits w) j)
compares w LtU i j = nat_lt i j
compares w GtS i j = int_lt (signed (bits w) j) (signed (bits w) i)
compares w GtU i j = nat_lt j i
compares w LeS i j = int_le (signed (bits w) i) (signed (bits w) j)
compares w LeU i j = nat_le i j
compares w GeS i j = int_le (signed (bits w) j) (signed (bits w) i)
compares w GeU i j = nat_le j i

-- the value of a conversion: wrap, extend^u and extend^s, and iextendM_s_N, which extends the lowest M bits with their sign
abbrev pub convert : Conv → ℕ → ℕ
convert Wrap i = wrap 32 i
convert Ext32S i = extend_signed 32 64 i
convert Ext32U i = i
convert S8of32 i = extend_signed 8 32 (wrap 8 i)
convert S16of32 i = extend_signed 16 32 (wrap 16 i)
convert S8of64 i = extend_signed 8 64 (wrap 8 i)
convert S16of64 i = extend_signed 16 64 (wrap 16 i)
convert S32of64 i = extend_signed 32 64 (wrap 32 i)

-- the width of the operand of a conversion, and that of its result
abbrev pub width_from : Conv → Width
width_from Wrap = W64
width_from Ext32S = W32
width_from Ext32U = W32
width_from S8of32 = W32
width_from S16of32 = W32
width_from S8of64 = W64
width_from S16of64 = W64
width_from S32of64 = W64

abbrev pub width_to : Conv → Width
width_to Wrap = W32
width_to Ext32S = W64
width_to Ext32U = W64
width_to S8of32 = W32
width_to S16of32 = W32
width_to S8of64 = W64
width_to S16of64 = W64
width_to S32of64 = W64
