-- Vector operators that move lanes, or change how wide they are: chapter 4 of the standard, "Numerics", "Vector
-- Operations".
use Rattle.std.specs.Prelude.{ℕ, ◌-◌, ◌/◌, ◌^◌, not, if◌then◌else◌, nat_eq, ℤ, List, ◌++◌, map, replicate, get_or, set, bit_and, bit_or}
use Rattle.std.specs.List.{list_all}
use Rattle.num_core.specs.Integers.{signed, wrap, extend_signed, add_of, mul_of}
use Rattle.lane_core.specs.declared.vector.Shape.{Shape}
use Rattle.lane_core.specs.declared.vector.Shape.TheVariants.{I8x16, I32x4}
use Rattle.lane_core.specs.declared.operators.memory.LaneExtract.{LaneExtract}
use Rattle.lane_core.specs.declared.operators.memory.LaneExtract.TheVariants as extracts
use Rattle.lane_core.specs.Shapes.{lane_count, extract_shape}
use Rattle.lane_core.specs.Lanes.{lane_bits, narrower, joined, lanes, from_lanes, lane_by_lane, neighbours, low_half, high_half}

-- inot_N
abbrev pub bit_not : ℕ → ℕ → ℕ
bit_not n i = 2 ^ n - 1 - i

abbrev pub v128_bits : ℕ
v128_bits = 128

-- v128.bitselect: the bits of the first where the third has 1, else of the second
abbrev pub bitselect : ℕ → ℕ → ℕ → ℕ
bitselect v w choice = bit_or (bit_and v choice) (bit_and w (bit_not v128_bits choice))

-- a lane of half the width as a lane of the shape, by its signed or its unsigned value
abbrev pub extend_s : Shape → ℕ → ℕ
extend_s shape i = extend_signed (lane_bits (narrower shape)) (lane_bits shape) i

abbrev pub extend_u : Shape → ℕ → ℕ
extend_u shape i = i

-- the lanes of half the width, each as a lane of the shape: all of them, the lower half, the upper half
abbrev pub widened : (Shape → ℕ → ℕ) → Shape → ℕ → List ℕ
widened extend shape v = map (extend shape) (lanes (narrower shape) v)

abbrev pub widened_low : (Shape → ℕ → ℕ) → Shape → ℕ → List ℕ
widened_low extend shape v = low_half (widened extend shape v) shape

abbrev pub widened_high : (Shape → ℕ → ℕ) → Shape → ℕ → List ℕ
widened_high extend shape v = high_half (widened extend shape v) shape

-- extend_low, extend_high
abbrev pub extend_low : (Shape → ℕ → ℕ) → Shape → ℕ → ℕ
extend_low extend shape v = from_lanes shape (widened_low extend shape v)

abbrev pub extend_high : (Shape → ℕ → ℕ) → Shape → ℕ → ℕ
extend_high extend shape v = from_lanes shape (widened_high extend shape v)

-- extadd_pairwise: the sum of each two neighbours
abbrev pub add_pairs : (Shape → ℕ → ℕ) → Shape → ℕ → ℕ
add_pairs extend shape v = from_lanes shape (neighbours (add_of (lane_bits shape)) (widened extend shape v))

-- extmul_low, extmul_high: the products of the lanes of a half
abbrev pub multiply_low : (Shape → ℕ → ℕ) → Shape → ℕ → ℕ → ℕ
multiply_low extend shape v w =
    from_lanes shape (lane_by_lane (mul_of (lane_bits shape)) (widened_low extend shape v) (widened_low extend shape w))

abbrev pub multiply_high : (Shape → ℕ → ℕ) → Shape → ℕ → ℕ → ℕ
multiply_high extend shape v w =
    from_lanes shape (lane_by_lane (mul_of (lane_bits shape)) (widened_high extend shape v) (widened_high extend shape w))

-- i32x4.dot_i16x8_s: the sums of the products of two neighbouring signed lanes
abbrev pub dot : ℕ → ℕ → ℕ
dot v w =
    from_lanes I32x4 (neighbours (add_of 32) (lane_by_lane (mul_of 32) (widened extend_s I32x4 v) (widened extend_s I32x4 w)))

-- narrow: the signed lanes of both, saturated to half the width, those of the first in the lower half
abbrev pub narrow : (ℕ → ℤ → ℕ) → Shape → ℕ → ℕ → ℕ
narrow saturate shape v w =
    from_lanes (narrower shape) (map (λ i. saturate (lane_bits (narrower shape)) (signed (lane_bits shape) i)) (lanes shape v ++ lanes shape w))

-- i8x16.swizzle: lanes of the first by the places in the second, 0 for a place out of range
abbrev pub swizzle : ℕ → ℕ → ℕ
swizzle v places = from_lanes I8x16 (map (λ place. get_or (lanes I8x16 v) place 0) (lanes I8x16 places))

-- i8x16.shuffle: lanes of both, those of the first before those of the second, by these places
abbrev pub shuffle : List ℕ → ℕ → ℕ → ℕ
shuffle places v w = from_lanes I8x16 (map (λ place. get_or (lanes I8x16 v ++ lanes I8x16 w) place 0) places)

-- splat: the lowest bits of an integer in each lane
abbrev pub splat : Shape → ℕ → ℕ
splat shape i = from_lanes shape (replicate (lane_count shape) (wrap (lane_bits shape) i))

-- extract_lane: a lane, and the integer that has its signed or unsigned value
abbrev pub lane_at : Shape → ℕ → ℕ → ℕ
lane_at shape lane v = get_or (lanes shape v) lane 0

abbrev pub extended : LaneExtract → ℕ → ℕ
extended extracts.I8x16S i = extend_signed 8 32 i
extended extracts.I8x16U i = i
extended extracts.I16x8S i = extend_signed 16 32 i
extended extracts.I16x8U i = i
extended extracts.I32x4 i = i
extended extracts.I64x2 i = i

abbrev pub extract : LaneExtract → ℕ → ℕ → ℕ
extract op lane v = extended op (lane_at (extract_shape op) lane v)

-- replace_lane: the lowest bits of an integer in the place of one lane
abbrev pub replace : Shape → ℕ → ℕ → ℕ → ℕ
replace shape lane v i = from_lanes shape (set (lanes shape v) lane (wrap (lane_bits shape) i))

-- any_true, all_true: 1 where it holds, else 0
abbrev pub any_true : ℕ → ℕ
any_true v = if nat_eq v 0 then 0 else 1

abbrev pub all_true : Shape → ℕ → ℕ
all_true shape v = if list_all (λ i. not (nat_eq i 0)) (lanes shape v) then 1 else 0

-- bitmask: the top bit of lane i as bit i
abbrev pub bitmask : Shape → ℕ → ℕ
bitmask shape v = joined 1 (map (λ i. i / 2 ^ (lane_bits shape - 1)) (lanes shape v))
