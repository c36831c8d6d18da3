-- How vectors are cut into lanes, and what loads of vectors read: chapter 3 of the standard, "Vector Instructions" and
-- "Memory Instructions".
use Rattle.std.specs.Prelude.{ℕ}
use Rattle.lane_core.specs.declared.vector.Shape.{Shape}
use Rattle.lane_core.specs.declared.vector.Shape.TheVariants.{I8x16, I16x8, I32x4, I64x2}
use Rattle.lane_core.specs.declared.operators.memory.LaneExtract.{LaneExtract}
use Rattle.lane_core.specs.declared.operators.memory.LaneExtract.TheVariants as extracts
use Rattle.lane_core.specs.declared.operators.memory.LaneLoad.{LaneLoad}
use Rattle.lane_core.specs.declared.operators.memory.LaneLoad.TheVariants as loads

-- how many lanes a shape has, and how many bytes each of them
abbrev pub lane_count : Shape → ℕ
lane_count I8x16 = 16
lane_count I16x8 = 8
lane_count I32x4 = 4
lane_count I64x2 = 2

abbrev pub lane_bytes : Shape → ℕ
lane_bytes I8x16 = 1
lane_bytes I16x8 = 2
lane_bytes I32x4 = 4
lane_bytes I64x2 = 8

-- the shape of which extract_lane takes a lane
abbrev pub extract_shape : LaneExtract → Shape
extract_shape extracts.I8x16S = I8x16
extract_shape extracts.I8x16U = I8x16
extract_shape extracts.I16x8S = I16x8
extract_shape extracts.I16x8U = I16x8
extract_shape extracts.I32x4 = I32x4
extract_shape extracts.I64x2 = I64x2

-- how many bytes a load of a vector reads
abbrev pub lane_load_bytes : LaneLoad → ℕ
lane_load_bytes loads.Whole = 16
lane_load_bytes loads.Load8x8S = 8
lane_load_bytes loads.Load8x8U = 8
lane_load_bytes loads.Load16x4S = 8
lane_load_bytes loads.Load16x4U = 8
lane_load_bytes loads.Load32x2S = 8
lane_load_bytes loads.Load32x2U = 8
lane_load_bytes loads.Load8Splat = 1
lane_load_bytes loads.Load16Splat = 2
lane_load_bytes loads.Load32Splat = 4
lane_load_bytes loads.Load64Splat = 8
lane_load_bytes loads.Load32Zero = 4
lane_load_bytes loads.Load64Zero = 8
