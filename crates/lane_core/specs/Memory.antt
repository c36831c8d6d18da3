-- What loads and stores of vectors make of the bytes of a memory, the lowest first: chapter 4 of the standard,
-- "Memory Instructions".
use Rattle.std.specs.Prelude.{ℕ, List, map}
use Rattle.num_core.specs.Bytes.{from_bytes, to_bytes}
use Rattle.lane_core.specs.declared.vector.Shape.{Shape}
use Rattle.lane_core.specs.declared.vector.Shape.TheVariants.{I8x16, I16x8, I32x4, I64x2}
use Rattle.lane_core.specs.declared.operators.memory.LaneLoad.{LaneLoad}
use Rattle.lane_core.specs.declared.operators.memory.LaneLoad.TheVariants as loads
use Rattle.lane_core.specs.Shapes.{lane_count, lane_bytes}
use Rattle.lane_core.specs.Lanes.{lane_bits, narrower, cut_into, from_lanes}
use Rattle.lane_core.specs.Rearranging.{extend_s, extend_u, splat, lane_at, replace}

-- as many numbers of half the width as the shape has lanes, each extended to a lane
abbrev pub load_extended : (Shape → ℕ → ℕ) → Shape → List ℕ → ℕ
load_extended extend shape bytes =
    from_lanes shape (map (extend shape) (cut_into (lane_bits (narrower shape)) (lane_count shape) (from_bytes bytes)))

-- the vector that a load makes of the bytes that it reads
abbrev pub loaded_vector : LaneLoad → List ℕ → ℕ
loaded_vector loads.Whole bytes = from_bytes bytes
loaded_vector loads.Load8x8S bytes = load_extended extend_s I16x8 bytes
loaded_vector loads.Load8x8U bytes = load_extended extend_u I16x8 bytes
loaded_vector loads.Load16x4S bytes = load_extended extend_s I32x4 bytes
loaded_vector loads.Load16x4U bytes = load_extended extend_u I32x4 bytes
loaded_vector loads.Load32x2S bytes = load_extended extend_s I64x2 bytes
loaded_vector loads.Load32x2U bytes = load_extended extend_u I64x2 bytes
loaded_vector loads.Load8Splat bytes = splat I8x16 (from_bytes bytes)
loaded_vector loads.Load16Splat bytes = splat I16x8 (from_bytes bytes)
loaded_vector loads.Load32Splat bytes = splat I32x4 (from_bytes bytes)
loaded_vector loads.Load64Splat bytes = splat I64x2 (from_bytes bytes)
loaded_vector loads.Load32Zero bytes = from_bytes bytes
loaded_vector loads.Load64Zero bytes = from_bytes bytes

-- the bytes of a vector, those that make one of its lanes, and the vector with one lane from bytes
abbrev pub vector_bytes : ℕ → List ℕ
vector_bytes v = to_bytes 16 v

abbrev pub stored_lane : Shape → ℕ → ℕ → List ℕ
stored_lane shape lane v = to_bytes (lane_bytes shape) (lane_at shape lane v)

abbrev pub loaded_lane : Shape → ℕ → ℕ → List ℕ → ℕ
loaded_lane shape lane v bytes = replace shape lane v (from_bytes bytes)
