-- How the vector operators are carried out: most are an operator on single lanes, done for all lanes of a shape.
use Rattle.std.specs.Prelude.{ℕ, ◌-◌, ◌/◌, ◌%◌, ◌^◌, Bool, ℤ, pos, ◌+ℤ◌, ◌-ℤ◌, ◌++◌, map, get_or, bit_and, bit_or, bit_xor}
use Rattle.num_core.specs.declared.operators.Cmp.{Cmp}
use Rattle.num_core.specs.declared.operators.Cmp.TheVariants as comparisons
use Rattle.num_core.specs.Integers.{signed, add_of, sub_of, mul_of, shift_left, shift_right_signed, shift_right_unsigned}
use Rattle.lane_core.specs.declared.vector.Shape.{Shape}
use Rattle.lane_core.specs.declared.vector.Shape.TheVariants.{I8x16, I16x8, I32x4, I64x2}
use Rattle.lane_core.specs.declared.operations.lane_operators.Sign.{Sign}
use Rattle.lane_core.specs.declared.operations.lane_operators.Sign.TheVariants.{Signed, Unsigned}
use Rattle.lane_core.specs.declared.operations.lane_operators.Paired.{Paired}
use Rattle.lane_core.specs.declared.operations.lane_operators.Paired.TheVariants as paired
use Rattle.lane_core.specs.declared.operations.lane_operators.Unary.{Unary}
use Rattle.lane_core.specs.declared.operations.lane_operators.Unary.TheVariants as unaries
use Rattle.lane_core.specs.declared.operations.lane_operators.Binary.{Binary}
use Rattle.lane_core.specs.declared.operations.lane_operators.Binary.TheVariants as binaries
use Rattle.lane_core.specs.declared.operations.lane_operators.Row1.{Row1}
use Rattle.lane_core.specs.declared.operations.lane_operators.Row1.TheVariants as row1s
use Rattle.lane_core.specs.declared.operations.lane_operators.Row2.{Row2}
use Rattle.lane_core.specs.declared.operations.lane_operators.Row2.TheVariants as row2s
use Rattle.lane_core.specs.Shapes.{lane_count}
use Rattle.lane_core.specs.Lanes.{lane_bits, narrower, cut_into, joined, lanes, lane_by_lane, mask}
use Rattle.lane_core.specs.LaneNumbers.{abs_of, neg_of, ones, saturate_signed, saturate_unsigned, equal, unequal, less_signed, less_unsigned, most_signed, most_unsigned, min_signed, min_unsigned, max_signed, max_unsigned, average, q15_product}
use Rattle.lane_core.specs.Rearranging.{bit_not, v128_bits, extend_s, extend_u, extend_low, extend_high, add_pairs, multiply_low, multiply_high, dot, narrow, swizzle}

-- the shape of lanes that are two lanes of another
abbrev pub pair_shape : Paired → Shape
pair_shape paired.I16x8 = I16x8
pair_shape paired.I32x4 = I32x4
pair_shape paired.I64x2 = I64x2

-- how many bits the integer of a lane has
abbrev pub integer_bits : Shape → ℕ
integer_bits I64x2 = 64
integer_bits _ = 32

-- what a sign says of a number of n bits, of a lane of half the width, and of a number that saturates
abbrev pub number_by : Sign → ℕ → ℕ → ℤ
number_by Signed n i = signed n i
number_by Unsigned n i = pos i

abbrev pub extend_by : Sign → Shape → ℕ → ℕ
extend_by Signed = extend_s
extend_by Unsigned = extend_u

abbrev pub saturate_by : Sign → ℕ → ℤ → ℕ
saturate_by Signed = saturate_signed
saturate_by Unsigned = saturate_unsigned

-- whether the first is at most the second, the lesser, and the greater
abbrev pub most_by : Sign → ℕ → ℕ → ℕ → Bool
most_by Signed = most_signed
most_by Unsigned = most_unsigned

abbrev pub min_by : Sign → ℕ → ℕ → ℕ → ℕ
min_by Signed = min_signed
min_by Unsigned = min_unsigned

abbrev pub max_by : Sign → ℕ → ℕ → ℕ → ℕ
max_by Signed = max_signed
max_by Unsigned = max_unsigned

-- the lower and the upper half of a lane
abbrev pub half_bits : Shape → ℕ
half_bits shape = lane_bits (narrower shape)

abbrev pub low_part : Shape → ℕ → ℕ
low_part shape i = i % 2 ^ half_bits shape

abbrev pub high_part : Shape → ℕ → ℕ
high_part shape i = i / 2 ^ half_bits shape

-- how many bits an operator on one lane reads, and how many it gives
abbrev pub bits_read : Unary → Shape → ℕ
bits_read (unaries.Extend sign) shape = half_bits shape
bits_read _ shape = lane_bits shape

abbrev pub bits_given : Unary → Shape → ℕ
bits_given (unaries.Saturate sign) shape = half_bits shape
bits_given unaries.Top shape = 1
bits_given _ shape = lane_bits shape

-- a lane from one lane
abbrev pub unary_lane : Unary → Shape → ℕ → ℕ
unary_lane unaries.Abs shape i = abs_of (lane_bits shape) i
unary_lane unaries.Neg shape i = neg_of (lane_bits shape) i
unary_lane unaries.Ones shape i = ones (lane_bits shape) i
unary_lane (unaries.Shl count) shape i = shift_left (lane_bits shape) i count
unary_lane (unaries.ShrS count) shape i = shift_right_signed (lane_bits shape) i count
unary_lane (unaries.ShrU count) shape i = shift_right_unsigned (lane_bits shape) i count
unary_lane (unaries.PairSum sign) shape i =
    add_of (lane_bits shape) (extend_by sign shape (low_part shape i)) (extend_by sign shape (high_part shape i))
unary_lane (unaries.Extend sign) shape i = extend_by sign shape i
unary_lane (unaries.Saturate sign) shape i = saturate_by sign (half_bits shape) (signed (lane_bits shape) i)
unary_lane unaries.Top shape i = i / 2 ^ (lane_bits shape - 1)
unary_lane (unaries.ByteOf v) shape i = get_or (lanes I8x16 v.0) i 0
unary_lane (unaries.ByteOfBoth v w) shape i = get_or (lanes I8x16 v.0 ++ lanes I8x16 w.0) i 0

-- a comparison of two lanes of n bits
abbrev pub lanes_compare : Cmp → ℕ → ℕ → ℕ → Bool
lanes_compare comparisons.Eq n i j = equal n i j
lanes_compare comparisons.Ne n i j = unequal n i j
lanes_compare comparisons.LtS n i j = less_signed n i j
lanes_compare comparisons.LtU n i j = less_unsigned n i j
lanes_compare comparisons.GtS n i j = less_signed n j i
lanes_compare comparisons.GtU n i j = less_unsigned n j i
lanes_compare comparisons.LeS n i j = most_signed n i j
lanes_compare comparisons.LeU n i j = most_unsigned n i j
lanes_compare comparisons.GeS n i j = most_signed n j i
lanes_compare comparisons.GeU n i j = most_unsigned n j i

-- a lane from two lanes
abbrev pub binary_lane : Binary → Shape → ℕ → ℕ → ℕ
binary_lane binaries.Add shape i j = add_of (lane_bits shape) i j
binary_lane binaries.Sub shape i j = sub_of (lane_bits shape) i j
binary_lane binaries.Mul shape i j = mul_of (lane_bits shape) i j
binary_lane (binaries.AddSat sign) shape i j =
    saturate_by sign (lane_bits shape) (number_by sign (lane_bits shape) i +ℤ number_by sign (lane_bits shape) j)
binary_lane (binaries.SubSat sign) shape i j =
    saturate_by sign (lane_bits shape) (number_by sign (lane_bits shape) i -ℤ number_by sign (lane_bits shape) j)
binary_lane (binaries.Min sign) shape i j = min_by sign (lane_bits shape) i j
binary_lane (binaries.Max sign) shape i j = max_by sign (lane_bits shape) i j
binary_lane binaries.Average shape i j = average (lane_bits shape) i j
binary_lane binaries.Q15Product shape i j = q15_product (lane_bits shape) i j
binary_lane binaries.Dot shape i j =
    add_of (lane_bits shape)
    (mul_of (lane_bits shape) (extend_s shape (low_part shape i)) (extend_s shape (low_part shape j)))
    (mul_of (lane_bits shape) (extend_s shape (high_part shape i)) (extend_s shape (high_part shape j)))
binary_lane (binaries.Compare op) shape i j = mask (lane_bits shape) (lanes_compare op (lane_bits shape) i j)

-- an operator done for all lanes
abbrev pub each_of : Unary → Shape → ℕ → ℕ
each_of op shape v = joined (bits_given op shape) (map (unary_lane op shape) (cut_into (bits_read op shape) (lane_count shape) v))

abbrev pub both_of : Binary → Shape → ℕ → ℕ → ℕ
both_of op shape v w = joined (lane_bits shape) (lane_by_lane (binary_lane op shape) (lanes shape v) (lanes shape w))

-- a vector from one vector, and from two
abbrev pub row1 : Row1 → ℕ → ℕ
row1 row1s.Not v = bit_not v128_bits v
row1 (row1s.Each op shape) v = each_of op shape v
row1 (row1s.AddPairs sign p) v = add_pairs (extend_by sign) (pair_shape p) v
row1 (row1s.ExtendLow sign p) v = extend_low (extend_by sign) (pair_shape p) v
row1 (row1s.ExtendHigh sign p) v = extend_high (extend_by sign) (pair_shape p) v

abbrev pub row2 : Row2 → ℕ → ℕ → ℕ
row2 row2s.And v w = bit_and v w
row2 row2s.AndNot v w = bit_and v (bit_not v128_bits w)
row2 row2s.Or v w = bit_or v w
row2 row2s.Xor v w = bit_xor v w
row2 (row2s.Both op shape) v w = both_of op shape v w
row2 row2s.Swizzle v w = swizzle v w
row2 (row2s.Narrow sign p) v w = narrow (saturate_by sign) (pair_shape p) v w
row2 (row2s.MultiplyLow sign p) v w = multiply_low (extend_by sign) (pair_shape p) v w
row2 (row2s.MultiplyHigh sign p) v w = multiply_high (extend_by sign) (pair_shape p) v w
row2 row2s.Dot v w = dot v w
