-- That what an operator gives on single lanes is a lane.
use Rattle.std.proofs.Common.{◌≡◌, ℕ, zero, suc, ◌+◌, ◌-◌, ◌*◌, ◌/◌, ◌%◌, ◌^◌, ◌<◌, ◌≤◌, Bool, true, false, cond, nat_lt, nat_le, List, [], ◌∷◌, ◌++◌, get_or, sym, ap, ◌∙◌, subst, arith, pow_pos, pow_mono, lit<, lit≤}
use Rattle.std.specs.Prelude.{ℤ, pos, negsuc, int_le, int_lt, ◌+ℤ◌, ◌-ℤ◌, ◌*ℤ◌, if◌then◌else◌}
use Rattle.std.proofs.Math.Nat.{div-le_self}
use Rattle.std.proofs.lemmas.Nat.{ones_le_self, shr_below, pow-add}
use Rattle.std.proofs.lemmas.Bool.{leb-false}
use Rattle.num_core.specs.Integers.{signed, unsigned}
use Rattle.num_core.proofs.Ranges.{wrap_below, extend_signed_below, shift_right_signed_below}
use Rattle.lane_core.specs.declared.vector.Shape.{Shape}
use Rattle.lane_core.specs.declared.vector.Shape.TheVariants.{I8x16, I16x8, I32x4, I64x2}
use Rattle.lane_core.specs.declared.operations.lane_operators.Sign.{Sign}
use Rattle.lane_core.specs.declared.operations.lane_operators.Sign.TheVariants.{Signed, Unsigned}
use Rattle.lane_core.specs.declared.operations.lane_operators.Unary.{Unary}
use Rattle.lane_core.specs.declared.operations.lane_operators.Unary.TheVariants as unaries
use Rattle.lane_core.specs.declared.operations.lane_operators.Binary.{Binary}
use Rattle.lane_core.specs.declared.operations.lane_operators.Binary.TheVariants as binaries
use Rattle.lane_core.specs.Shapes.{lane_count}
use Rattle.lane_core.specs.Lanes.{lane_bits, lanes}
use Rattle.lane_core.specs.LaneNumbers.{neg_of, shifted_down}
use Rattle.lane_core.specs.Rows.{extend_by, saturate_by, number_by, most_by, half_bits, low_part, high_part, bits_read, bits_given, unary_lane, binary_lane, lanes_compare}
use Rattle.lane_core.proofs.Cuts.{Below, below_cut}

pub some_bits : (s : Shape) → 0 < lane_bits s
some_bits s = elim s as (λ x. 0 < lane_bits x) [ I8x16 ↦ lit< tt | I16x8 ↦ lit< tt | I32x4 ↦ lit< tt | I64x2 ↦ lit< tt ]

at_most_whole : (s : Shape) → half_bits s ≤ lane_bits s
at_most_whole s = elim s as (λ x. half_bits x ≤ lane_bits x) [ I8x16 ↦ lit≤ tt | I16x8 ↦ lit≤ tt | I32x4 ↦ lit≤ tt | I64x2 ↦ lit≤ tt ]

bytes_fit : (s : Shape) → 8 ≤ lane_bits s
bytes_fit s = elim s as (λ x. 8 ≤ lane_bits x) [ I8x16 ↦ lit≤ tt | I16x8 ↦ lit≤ tt | I32x4 ↦ lit≤ tt | I64x2 ↦ lit≤ tt ]

chosen : (b : Bool) (x y bound : ℕ) → x < bound → y < bound → cond b x y < bound
chosen true x y bound p q = p
chosen false x y bound p q = q

pub twice_top : (n : ℕ) → 0 < n → 2 ^ n ≡ 2 * 2 ^ (n - 1)
twice_top n above =
    let all : 1 + (n - 1) ≡ n = omega arith in
    ap (λ k. 2 ^ k) (sym all) ∙ pow-add 2 1 (n - 1)

unsigned_within : (n : ℕ) (z : ℤ) → 0 < n → int_le (pos (2 ^ (n - 1))) z ≡ false → unsigned n z < 2 ^ n
unsigned_within n (pos k) above test =
    let less : k < 2 ^ (n - 1) = leb-false (2 ^ (n - 1)) k test in
    omega (arith, twice_top n above)
unsigned_within n (negsuc k) above test = omega (arith, pow_pos n)

saturate_within : (n : ℕ) (z : ℤ) (low high : Bool) → 0 < n → int_le (pos (2 ^ (n - 1))) z ≡ high → (if low then 2 ^ (n - 1) else (if high then 2 ^ (n - 1) - 1 else unsigned n z)) < 2 ^ n
saturate_within n z true high above e = omega (arith, twice_top n above, pow_pos (n - 1))
saturate_within n z false true above e = omega (arith, twice_top n above, pow_pos (n - 1))
saturate_within n z false false above e = unsigned_within n z above e

pub saturate_below : (sign : Sign) (n : ℕ) (z : ℤ) → 0 < n → saturate_by sign n z < 2 ^ n
saturate_below Signed n z above = saturate_within n z (int_lt z (negsuc (2 ^ (n - 1) - 1))) (int_le (pos (2 ^ (n - 1))) z) above (λ i. int_le (pos (2 ^ (n - 1))) z)
saturate_below Unsigned n (pos k) above = omega (arith, pow_pos n)
saturate_below Unsigned n (negsuc k) above = pow_pos n

pub extend_below : (sign : Sign) (s : Shape) (i : ℕ) → i < 2 ^ half_bits s → extend_by sign s i < 2 ^ lane_bits s
extend_below Signed s i lt = extend_signed_below (half_bits s) (lane_bits s) i (at_most_whole s) lt
extend_below Unsigned s i lt = let more : 2 ^ half_bits s ≤ 2 ^ lane_bits s = pow_mono (at_most_whole s) in omega arith

-- a byte of a list of bytes, or 0 past its end
byte_of : (ls : List ℕ) (i : ℕ) → Below 8 ls → get_or ls i 0 < 2 ^ 8
byte_of [] i b = pow_pos 8
byte_of (x ∷ more) zero b = b.0
byte_of (x ∷ more) (suc i) b = byte_of more i b.1

below_append : (n : ℕ) (xs ys : List ℕ) → Below n xs → Below n ys → Below n (xs ++ ys)
below_append n [] ys p q = q
below_append n (x ∷ xs) ys p q = (p.0, below_append n xs ys p.1 q)

byte_in : (s : Shape) (ls : List ℕ) (i : ℕ) → Below 8 ls → get_or ls i 0 < 2 ^ lane_bits s
byte_in s ls i b = let more : 2 ^ 8 ≤ 2 ^ lane_bits s = pow_mono (bytes_fit s) in omega (arith, byte_of ls i b)

top_below : (n i : ℕ) → 0 < n → i < 2 ^ n → i / 2 ^ (n - 1) < 2 ^ 1
top_below n i above lt =
    let all : 1 + (n - 1) ≡ n = omega arith in
    shr_below i 1 (n - 1) (subst (λ b. i < 2 ^ b) (sym all) lt)

pub unary_below : (op : Unary) (s : Shape) (i : ℕ) → i < 2 ^ bits_read op s → unary_lane op s i < 2 ^ bits_given op s
unary_below unaries.Abs s i lt = chosen (nat_lt i (2 ^ (lane_bits s - 1))) i (neg_of (lane_bits s) i) (2 ^ lane_bits s) lt (wrap_below (lane_bits s) (0 + (2 ^ lane_bits s - i)))
unary_below unaries.Neg s i lt = wrap_below (lane_bits s) (0 + (2 ^ lane_bits s - i))
unary_below unaries.Ones s i lt = omega (arith, ones_le_self i)
unary_below (unaries.Shl count) s i lt = wrap_below (lane_bits s) (i * 2 ^ (count % lane_bits s))
unary_below (unaries.ShrS count) s i lt = shift_right_signed_below (lane_bits s) i count (some_bits s) lt
unary_below (unaries.ShrU count) s i lt = omega (arith, div-le_self i (2 ^ (count % lane_bits s)))
unary_below (unaries.PairSum sign) s i lt = wrap_below (lane_bits s) (extend_by sign s (low_part s i) + extend_by sign s (high_part s i))
unary_below (unaries.Extend sign) s i lt = extend_below sign s i lt
unary_below (unaries.Saturate sign) s i lt = saturate_below sign (half_bits s) (signed (lane_bits s) i) (elim s as (λ x. 0 < half_bits x) [ I8x16 ↦ lit< tt | I16x8 ↦ lit< tt | I32x4 ↦ lit< tt | I64x2 ↦ lit< tt ])
unary_below unaries.Top s i lt = top_below (lane_bits s) i (some_bits s) lt
unary_below (unaries.ByteOf v) s i lt = byte_in s (lanes I8x16 v.0) i (below_cut 8 16 v.0)
unary_below (unaries.ByteOfBoth v w) s i lt = byte_in s (lanes I8x16 v.0 ++ lanes I8x16 w.0) i (below_append 8 (lanes I8x16 v.0) (lanes I8x16 w.0) (below_cut 8 16 v.0) (below_cut 8 16 w.0))

pub binary_below : (op : Binary) (s : Shape) (i j : ℕ) → i < 2 ^ lane_bits s → j < 2 ^ lane_bits s → binary_lane op s i j < 2 ^ lane_bits s
binary_below binaries.Add s i j p q = wrap_below (lane_bits s) (i + j)
binary_below binaries.Sub s i j p q = wrap_below (lane_bits s) (i + (2 ^ lane_bits s - j))
binary_below binaries.Mul s i j p q = wrap_below (lane_bits s) (i * j)
binary_below (binaries.AddSat sign) s i j p q = saturate_below sign (lane_bits s) (number_by sign (lane_bits s) i +ℤ number_by sign (lane_bits s) j) (some_bits s)
binary_below (binaries.SubSat sign) s i j p q = saturate_below sign (lane_bits s) (number_by sign (lane_bits s) i -ℤ number_by sign (lane_bits s) j) (some_bits s)
binary_below (binaries.Min Signed) s i j p q = chosen (most_by Signed (lane_bits s) i j) i j (2 ^ lane_bits s) p q
binary_below (binaries.Min Unsigned) s i j p q = chosen (nat_le i j) i j (2 ^ lane_bits s) p q
binary_below (binaries.Max Signed) s i j p q = chosen (most_by Signed (lane_bits s) i j) j i (2 ^ lane_bits s) q p
binary_below (binaries.Max Unsigned) s i j p q = chosen (nat_le i j) j i (2 ^ lane_bits s) q p
binary_below binaries.Average s i j p q = omega arith
binary_below binaries.Q15Product s i j p q =
    saturate_below Signed (lane_bits s) (shifted_down 15 (signed (lane_bits s) i *ℤ signed (lane_bits s) j +ℤ pos (2 ^ 14))) (some_bits s)
binary_below binaries.Dot s i j p q = wrap_below (lane_bits s) _
binary_below (binaries.Compare op) s i j p q = chosen (lanes_compare op (lane_bits s) i j) (2 ^ lane_bits s - 1) 0 (2 ^ lane_bits s) (omega (arith, pow_pos (lane_bits s))) (pow_pos (lane_bits s))

pub whole_vector : (s : Shape) → lane_bits s * lane_count s ≤ 128
whole_vector s = elim s as (λ x. lane_bits x * lane_count x ≤ 128) [ I8x16 ↦ lit≤ tt | I16x8 ↦ lit≤ tt | I32x4 ↦ lit≤ tt | I64x2 ↦ lit≤ tt ]

pub few_lanes : (s : Shape) → lane_count s * 1 ≤ 32
few_lanes s = elim s as (λ x. lane_count x * 1 ≤ 32) [ I8x16 ↦ lit≤ tt | I16x8 ↦ lit≤ tt | I32x4 ↦ lit≤ tt | I64x2 ↦ lit≤ tt ]
