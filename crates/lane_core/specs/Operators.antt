-- What each vector operator gives, one row for each instruction, in the order of their codes: chapter 4 of the standard,
-- "Numerics", "Vector Operations". A vector is a number below 2^128.
use Rattle.std.specs.Prelude.{ℕ, bit_and, bit_or, bit_xor}
use Rattle.num_core.specs.Integers.{add_of, sub_of, mul_of, shift_left, shift_right_signed, shift_right_unsigned}
use Rattle.lane_core.specs.declared.vector.Shape.TheVariants.{I8x16, I16x8, I32x4, I64x2}
use Rattle.lane_core.specs.declared.operators.lanes.Lane1.{Lane1}
use Rattle.lane_core.specs.declared.operators.lanes.Lane1.TheVariants as one
use Rattle.lane_core.specs.declared.operators.lanes.LaneShift.{LaneShift}
use Rattle.lane_core.specs.declared.operators.lanes.LaneShift.TheVariants as shifts
use Rattle.lane_core.specs.declared.operators.lanes.LaneTest.{LaneTest}
use Rattle.lane_core.specs.declared.operators.lanes.LaneTest.TheVariants as tests
use Rattle.lane_core.specs.declared.operators.pairs.Lane2.{Lane2}
use Rattle.lane_core.specs.declared.operators.pairs.Lane2.TheVariants as twos
use Rattle.lane_core.specs.Lanes.{each_lane, both_lanes, compared}
use Rattle.lane_core.specs.LaneNumbers.{abs_of, neg_of, ones, saturate_signed, saturate_unsigned, add_sat_signed, add_sat_unsigned, sub_sat_signed, sub_sat_unsigned, equal, unequal, less_signed, less_unsigned, most_signed, most_unsigned, min_signed, min_unsigned, max_signed, max_unsigned, average, q15_product}
use Rattle.lane_core.specs.Rearranging.{bit_not, v128_bits, extend_s, extend_u, extend_low, extend_high, add_pairs, multiply_low, multiply_high, dot, narrow, swizzle, any_true, all_true, bitmask}

-- a vector from one vector
abbrev pub lanes1 : Lane1 → ℕ → ℕ
lanes1 one.V128Not v = bit_not v128_bits v
lanes1 one.I8x16Abs v = each_lane abs_of I8x16 v
lanes1 one.I8x16Neg v = each_lane neg_of I8x16 v
lanes1 one.I8x16Popcnt v = each_lane ones I8x16 v
lanes1 one.I16x8Abs v = each_lane abs_of I16x8 v
lanes1 one.I16x8Neg v = each_lane neg_of I16x8 v
lanes1 one.I16x8ExtaddPairwiseI8x16S v = add_pairs extend_s I16x8 v
lanes1 one.I16x8ExtaddPairwiseI8x16U v = add_pairs extend_u I16x8 v
lanes1 one.I16x8ExtendLowI8x16S v = extend_low extend_s I16x8 v
lanes1 one.I16x8ExtendHighI8x16S v = extend_high extend_s I16x8 v
lanes1 one.I16x8ExtendLowI8x16U v = extend_low extend_u I16x8 v
lanes1 one.I16x8ExtendHighI8x16U v = extend_high extend_u I16x8 v
lanes1 one.I32x4Abs v = each_lane abs_of I32x4 v
lanes1 one.I32x4Neg v = each_lane neg_of I32x4 v
lanes1 one.I32x4ExtaddPairwiseI16x8S v = add_pairs extend_s I32x4 v
lanes1 one.I32x4ExtaddPairwiseI16x8U v = add_pairs extend_u I32x4 v
lanes1 one.I32x4ExtendLowI16x8S v = extend_low extend_s I32x4 v
lanes1 one.I32x4ExtendHighI16x8S v = extend_high extend_s I32x4 v
lanes1 one.I32x4ExtendLowI16x8U v = extend_low extend_u I32x4 v
lanes1 one.I32x4ExtendHighI16x8U v = extend_high extend_u I32x4 v
lanes1 one.I64x2Abs v = each_lane abs_of I64x2 v
lanes1 one.I64x2Neg v = each_lane neg_of I64x2 v
lanes1 one.I64x2ExtendLowI32x4S v = extend_low extend_s I64x2 v
lanes1 one.I64x2ExtendHighI32x4S v = extend_high extend_s I64x2 v
lanes1 one.I64x2ExtendLowI32x4U v = extend_low extend_u I64x2 v
lanes1 one.I64x2ExtendHighI32x4U v = extend_high extend_u I64x2 v

-- a vector from two vectors, the first operand first
abbrev pub lanes2 : Lane2 → ℕ → ℕ → ℕ
lanes2 twos.I8x16Swizzle v w = swizzle v w
lanes2 twos.I8x16Eq v w = compared equal I8x16 v w
lanes2 twos.I8x16Ne v w = compared unequal I8x16 v w
lanes2 twos.I8x16LtS v w = compared less_signed I8x16 v w
lanes2 twos.I8x16LtU v w = compared less_unsigned I8x16 v w
lanes2 twos.I8x16GtS v w = compared (λ n i j. less_signed n j i) I8x16 v w
lanes2 twos.I8x16GtU v w = compared (λ n i j. less_unsigned n j i) I8x16 v w
lanes2 twos.I8x16LeS v w = compared most_signed I8x16 v w
lanes2 twos.I8x16LeU v w = compared most_unsigned I8x16 v w
lanes2 twos.I8x16GeS v w = compared (λ n i j. most_signed n j i) I8x16 v w
lanes2 twos.I8x16GeU v w = compared (λ n i j. most_unsigned n j i) I8x16 v w
lanes2 twos.I16x8Eq v w = compared equal I16x8 v w
lanes2 twos.I16x8Ne v w = compared unequal I16x8 v w
lanes2 twos.I16x8LtS v w = compared less_signed I16x8 v w
lanes2 twos.I16x8LtU v w = compared less_unsigned I16x8 v w
lanes2 twos.I16x8GtS v w = compared (λ n i j. less_signed n j i) I16x8 v w
lanes2 twos.I16x8GtU v w = compared (λ n i j. less_unsigned n j i) I16x8 v w
lanes2 twos.I16x8LeS v w = compared most_signed I16x8 v w
lanes2 twos.I16x8LeU v w = compared most_unsigned I16x8 v w
lanes2 twos.I16x8GeS v w = compared (λ n i j. most_signed n j i) I16x8 v w
lanes2 twos.I16x8GeU v w = compared (λ n i j. most_unsigned n j i) I16x8 v w
lanes2 twos.I32x4Eq v w = compared equal I32x4 v w
lanes2 twos.I32x4Ne v w = compared unequal I32x4 v w
lanes2 twos.I32x4LtS v w = compared less_signed I32x4 v w
lanes2 twos.I32x4LtU v w = compared less_unsigned I32x4 v w
lanes2 twos.I32x4GtS v w = compared (λ n i j. less_signed n j i) I32x4 v w
lanes2 twos.I32x4GtU v w = compared (λ n i j. less_unsigned n j i) I32x4 v w
lanes2 twos.I32x4LeS v w = compared most_signed I32x4 v w
lanes2 twos.I32x4LeU v w = compared most_unsigned I32x4 v w
lanes2 twos.I32x4GeS v w = compared (λ n i j. most_signed n j i) I32x4 v w
lanes2 twos.I32x4GeU v w = compared (λ n i j. most_unsigned n j i) I32x4 v w
lanes2 twos.I64x2Eq v w = compared equal I64x2 v w
lanes2 twos.I64x2Ne v w = compared unequal I64x2 v w
lanes2 twos.I64x2LtS v w = compared less_signed I64x2 v w
lanes2 twos.I64x2GtS v w = compared (λ n i j. less_signed n j i) I64x2 v w
lanes2 twos.I64x2LeS v w = compared most_signed I64x2 v w
lanes2 twos.I64x2GeS v w = compared (λ n i j. most_signed n j i) I64x2 v w
lanes2 twos.V128And v w = bit_and v w
lanes2 twos.V128Andnot v w = bit_and v (bit_not v128_bits w)
lanes2 twos.V128Or v w = bit_or v w
lanes2 twos.V128Xor v w = bit_xor v w
lanes2 twos.I8x16NarrowI16x8S v w = narrow saturate_signed I16x8 v w
lanes2 twos.I8x16NarrowI16x8U v w = narrow saturate_unsigned I16x8 v w
lanes2 twos.I16x8NarrowI32x4S v w = narrow saturate_signed I32x4 v w
lanes2 twos.I16x8NarrowI32x4U v w = narrow saturate_unsigned I32x4 v w
lanes2 twos.I8x16Add v w = both_lanes add_of I8x16 v w
lanes2 twos.I8x16AddSatS v w = both_lanes add_sat_signed I8x16 v w
lanes2 twos.I8x16AddSatU v w = both_lanes add_sat_unsigned I8x16 v w
lanes2 twos.I8x16Sub v w = both_lanes sub_of I8x16 v w
lanes2 twos.I8x16SubSatS v w = both_lanes sub_sat_signed I8x16 v w
lanes2 twos.I8x16SubSatU v w = both_lanes sub_sat_unsigned I8x16 v w
lanes2 twos.I8x16MinS v w = both_lanes min_signed I8x16 v w
lanes2 twos.I8x16MinU v w = both_lanes min_unsigned I8x16 v w
lanes2 twos.I8x16MaxS v w = both_lanes max_signed I8x16 v w
lanes2 twos.I8x16MaxU v w = both_lanes max_unsigned I8x16 v w
lanes2 twos.I8x16AvgrU v w = both_lanes average I8x16 v w
lanes2 twos.I16x8Add v w = both_lanes add_of I16x8 v w
lanes2 twos.I16x8AddSatS v w = both_lanes add_sat_signed I16x8 v w
lanes2 twos.I16x8AddSatU v w = both_lanes add_sat_unsigned I16x8 v w
lanes2 twos.I16x8Sub v w = both_lanes sub_of I16x8 v w
lanes2 twos.I16x8SubSatS v w = both_lanes sub_sat_signed I16x8 v w
lanes2 twos.I16x8SubSatU v w = both_lanes sub_sat_unsigned I16x8 v w
lanes2 twos.I16x8Mul v w = both_lanes mul_of I16x8 v w
lanes2 twos.I16x8MinS v w = both_lanes min_signed I16x8 v w
lanes2 twos.I16x8MinU v w = both_lanes min_unsigned I16x8 v w
lanes2 twos.I16x8MaxS v w = both_lanes max_signed I16x8 v w
lanes2 twos.I16x8MaxU v w = both_lanes max_unsigned I16x8 v w
lanes2 twos.I16x8AvgrU v w = both_lanes average I16x8 v w
lanes2 twos.I16x8Q15mulrSatS v w = both_lanes q15_product I16x8 v w
lanes2 twos.I16x8ExtmulLowI8x16S v w = multiply_low extend_s I16x8 v w
lanes2 twos.I16x8ExtmulHighI8x16S v w = multiply_high extend_s I16x8 v w
lanes2 twos.I16x8ExtmulLowI8x16U v w = multiply_low extend_u I16x8 v w
lanes2 twos.I16x8ExtmulHighI8x16U v w = multiply_high extend_u I16x8 v w
lanes2 twos.I32x4Add v w = both_lanes add_of I32x4 v w
lanes2 twos.I32x4Sub v w = both_lanes sub_of I32x4 v w
lanes2 twos.I32x4Mul v w = both_lanes mul_of I32x4 v w
lanes2 twos.I32x4MinS v w = both_lanes min_signed I32x4 v w
lanes2 twos.I32x4MinU v w = both_lanes min_unsigned I32x4 v w
lanes2 twos.I32x4MaxS v w = both_lanes max_signed I32x4 v w
lanes2 twos.I32x4MaxU v w = both_lanes max_unsigned I32x4 v w
lanes2 twos.I32x4DotI16x8S v w = dot v w
lanes2 twos.I32x4ExtmulLowI16x8S v w = multiply_low extend_s I32x4 v w
lanes2 twos.I32x4ExtmulHighI16x8S v w = multiply_high extend_s I32x4 v w
lanes2 twos.I32x4ExtmulLowI16x8U v w = multiply_low extend_u I32x4 v w
lanes2 twos.I32x4ExtmulHighI16x8U v w = multiply_high extend_u I32x4 v w
lanes2 twos.I64x2Add v w = both_lanes add_of I64x2 v w
lanes2 twos.I64x2Sub v w = both_lanes sub_of I64x2 v w
lanes2 twos.I64x2Mul v w = both_lanes mul_of I64x2 v w
lanes2 twos.I64x2ExtmulLowI32x4S v w = multiply_low extend_s I64x2 v w
lanes2 twos.I64x2ExtmulHighI32x4S v w = multiply_high extend_s I64x2 v w
lanes2 twos.I64x2ExtmulLowI32x4U v w = multiply_low extend_u I64x2 v w
lanes2 twos.I64x2ExtmulHighI32x4U v w = multiply_high extend_u I64x2 v w

-- a vector from a vector and an i32, the count, which is taken modulo the width of a lane
abbrev pub shift_lanes : LaneShift → ℕ → ℕ → ℕ
shift_lanes shifts.I8x16Shl v count = each_lane (λ n i. shift_left n i count) I8x16 v
shift_lanes shifts.I8x16ShrS v count = each_lane (λ n i. shift_right_signed n i count) I8x16 v
shift_lanes shifts.I8x16ShrU v count = each_lane (λ n i. shift_right_unsigned n i count) I8x16 v
shift_lanes shifts.I16x8Shl v count = each_lane (λ n i. shift_left n i count) I16x8 v
shift_lanes shifts.I16x8ShrS v count = each_lane (λ n i. shift_right_signed n i count) I16x8 v
shift_lanes shifts.I16x8ShrU v count = each_lane (λ n i. shift_right_unsigned n i count) I16x8 v
shift_lanes shifts.I32x4Shl v count = each_lane (λ n i. shift_left n i count) I32x4 v
shift_lanes shifts.I32x4ShrS v count = each_lane (λ n i. shift_right_signed n i count) I32x4 v
shift_lanes shifts.I32x4ShrU v count = each_lane (λ n i. shift_right_unsigned n i count) I32x4 v
shift_lanes shifts.I64x2Shl v count = each_lane (λ n i. shift_left n i count) I64x2 v
shift_lanes shifts.I64x2ShrS v count = each_lane (λ n i. shift_right_signed n i count) I64x2 v
shift_lanes shifts.I64x2ShrU v count = each_lane (λ n i. shift_right_unsigned n i count) I64x2 v

-- an i32 from one vector
abbrev pub test_lanes : LaneTest → ℕ → ℕ
test_lanes tests.V128AnyTrue v = any_true v
test_lanes tests.I8x16AllTrue v = all_true I8x16 v
test_lanes tests.I8x16Bitmask v = bitmask I8x16 v
test_lanes tests.I16x8AllTrue v = all_true I16x8 v
test_lanes tests.I16x8Bitmask v = bitmask I16x8 v
test_lanes tests.I32x4AllTrue v = all_true I32x4 v
test_lanes tests.I32x4Bitmask v = bitmask I32x4 v
test_lanes tests.I64x2AllTrue v = all_true I64x2 v
test_lanes tests.I64x2Bitmask v = bitmask I64x2 v
