-- Which vector instructions are built late: the profile's own choice.
use Rattle.std.specs.Prelude.{Bool, true, false, ◌||◌}
use Rattle.lane_core.specs.declared.operators.lanes.Lane1.{Lane1}
use Rattle.lane_core.specs.declared.operators.lanes.Lane1.TheVariants as ones
use Rattle.lane_core.specs.declared.operators.pairs.Lane2.{Lane2}
use Rattle.lane_core.specs.declared.operators.pairs.Lane2.TheVariants as twos
use Rattle.lane_core.specs.declared.operators.memory.LaneLoad.{LaneLoad}
use Rattle.lane_core.specs.declared.operators.memory.LaneLoad.TheVariants as loads

-- absolute values, counts of bits, sums of neighbours, and halves extended
unfoldable pub is_late1 : Lane1 → Bool
is_late1 ones.I8x16Abs = true
is_late1 ones.I8x16Popcnt = true
is_late1 ones.I16x8Abs = true
is_late1 ones.I16x8ExtaddPairwiseI8x16S = true
is_late1 ones.I16x8ExtaddPairwiseI8x16U = true
is_late1 ones.I16x8ExtendLowI8x16S = true
is_late1 ones.I16x8ExtendHighI8x16S = true
is_late1 ones.I16x8ExtendLowI8x16U = true
is_late1 ones.I16x8ExtendHighI8x16U = true
is_late1 ones.I32x4Abs = true
is_late1 ones.I32x4ExtaddPairwiseI16x8S = true
is_late1 ones.I32x4ExtaddPairwiseI16x8U = true
is_late1 ones.I32x4ExtendLowI16x8S = true
is_late1 ones.I32x4ExtendHighI16x8S = true
is_late1 ones.I32x4ExtendLowI16x8U = true
is_late1 ones.I32x4ExtendHighI16x8U = true
is_late1 ones.I64x2Abs = true
is_late1 ones.I64x2ExtendLowI32x4S = true
is_late1 ones.I64x2ExtendHighI32x4S = true
is_late1 ones.I64x2ExtendLowI32x4U = true
is_late1 ones.I64x2ExtendHighI32x4U = true
is_late1 _ = false

-- narrowing
unfoldable pub narrows : Lane2 → Bool
narrows twos.I8x16NarrowI16x8S = true
narrows twos.I8x16NarrowI16x8U = true
narrows twos.I16x8NarrowI32x4S = true
narrows twos.I16x8NarrowI32x4U = true
narrows _ = false

-- saturated sums, differences and fixed-point products
unfoldable pub saturates : Lane2 → Bool
saturates twos.I8x16AddSatS = true
saturates twos.I8x16AddSatU = true
saturates twos.I8x16SubSatS = true
saturates twos.I8x16SubSatU = true
saturates twos.I16x8AddSatS = true
saturates twos.I16x8AddSatU = true
saturates twos.I16x8SubSatS = true
saturates twos.I16x8SubSatU = true
saturates twos.I16x8Q15mulrSatS = true
saturates _ = false

-- extremes and averages
unfoldable pub picks : Lane2 → Bool
picks twos.I8x16MinS = true
picks twos.I8x16MinU = true
picks twos.I8x16MaxS = true
picks twos.I8x16MaxU = true
picks twos.I8x16AvgrU = true
picks twos.I16x8MinS = true
picks twos.I16x8MinU = true
picks twos.I16x8MaxS = true
picks twos.I16x8MaxU = true
picks twos.I16x8AvgrU = true
picks twos.I32x4MinS = true
picks twos.I32x4MinU = true
picks twos.I32x4MaxS = true
picks twos.I32x4MaxU = true
picks _ = false

-- products of halves, and sums of products
unfoldable pub multiplies_halves : Lane2 → Bool
multiplies_halves twos.I16x8ExtmulLowI8x16S = true
multiplies_halves twos.I16x8ExtmulHighI8x16S = true
multiplies_halves twos.I16x8ExtmulLowI8x16U = true
multiplies_halves twos.I16x8ExtmulHighI8x16U = true
multiplies_halves twos.I32x4DotI16x8S = true
multiplies_halves twos.I32x4ExtmulLowI16x8S = true
multiplies_halves twos.I32x4ExtmulHighI16x8S = true
multiplies_halves twos.I32x4ExtmulLowI16x8U = true
multiplies_halves twos.I32x4ExtmulHighI16x8U = true
multiplies_halves twos.I64x2ExtmulLowI32x4S = true
multiplies_halves twos.I64x2ExtmulHighI32x4S = true
multiplies_halves twos.I64x2ExtmulLowI32x4U = true
multiplies_halves twos.I64x2ExtmulHighI32x4U = true
multiplies_halves _ = false

unfoldable pub is_late2 : Lane2 → Bool
is_late2 op = narrows op || saturates op || picks op || multiplies_halves op

-- loads that extend lanes, and loads of one lane over zeros
unfoldable pub is_late_load : LaneLoad → Bool
is_late_load loads.Load8x8S = true
is_late_load loads.Load8x8U = true
is_late_load loads.Load16x4S = true
is_late_load loads.Load16x4U = true
is_late_load loads.Load32x2S = true
is_late_load loads.Load32x2U = true
is_late_load loads.Load32Zero = true
is_late_load loads.Load64Zero = true
is_late_load _ = false
