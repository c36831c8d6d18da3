-- Vectors as lists of lanes, lane 0 first: chapter 4 of the standard, "Numerics", "Vector Operations". A vector is a
-- number below 2^128, and a lane of N bits a number below 2^N.
use Rattle.std.specs.Prelude.{ℕ, zero, suc, ◌+◌, ◌*◌, ◌/◌, ◌%◌, ◌^◌, ◌-◌, Bool, if◌then◌else◌, List, [], ◌∷◌, map, take, drop}
use Rattle.lane_core.specs.declared.vector.Shape.{Shape}
use Rattle.lane_core.specs.declared.vector.Shape.TheVariants.{I8x16, I16x8, I32x4, I64x2}
use Rattle.lane_core.specs.Shapes.{lane_count}

-- how many bits a lane of the shape has
abbrev pub lane_bits : Shape → ℕ
lane_bits I8x16 = 8
lane_bits I16x8 = 16
lane_bits I32x4 = 32
lane_bits I64x2 = 64

-- the shape whose lanes are half as wide
abbrev pub narrower : Shape → Shape
narrower I8x16 = I8x16
narrower I16x8 = I8x16
narrower I32x4 = I16x8
narrower I64x2 = I32x4

-- a number cut into so many parts of n bits, the lowest first, and the number that such parts make
abbrev pub cut_into : ℕ → ℕ → ℕ → List ℕ
cut_into n zero i = []
cut_into n (suc k) i = i % 2 ^ n ∷ cut_into n k (i / 2 ^ n)

abbrev pub joined : ℕ → List ℕ → ℕ
joined n [] = 0
joined n (i ∷ more) = i + 2 ^ n * joined n more

-- lanes_shape, and its inverse
abbrev pub lanes : Shape → ℕ → List ℕ
lanes shape v = cut_into (lane_bits shape) (lane_count shape) v

abbrev pub from_lanes : Shape → List ℕ → ℕ
from_lanes shape ls = joined (lane_bits shape) ls

-- a function on the lanes at each place of two lists
abbrev pub lane_by_lane : (ℕ → ℕ → ℕ) → List ℕ → List ℕ → List ℕ
lane_by_lane f (i ∷ is) (j ∷ js) = f i j ∷ lane_by_lane f is js
lane_by_lane f _ _ = []

-- a function on each two neighbours
abbrev pub neighbours : (ℕ → ℕ → ℕ) → List ℕ → List ℕ
neighbours f (i ∷ (j ∷ more)) = f i j ∷ neighbours f more
neighbours f _ = []

-- a lane where a test holds, and where it does not: all ones, and zeros
abbrev pub mask : ℕ → Bool → ℕ
mask n holds = if holds then 2 ^ n - 1 else 0

-- vectors of the shape from one or two others, lane by lane; the function is told how many bits a lane has
abbrev pub each_lane : (ℕ → ℕ → ℕ) → Shape → ℕ → ℕ
each_lane f shape v = from_lanes shape (map (f (lane_bits shape)) (lanes shape v))

abbrev pub both_lanes : (ℕ → ℕ → ℕ → ℕ) → Shape → ℕ → ℕ → ℕ
both_lanes f shape v w = from_lanes shape (lane_by_lane (f (lane_bits shape)) (lanes shape v) (lanes shape w))

-- a comparison: all ones in each lane where it holds
abbrev pub compared : (ℕ → ℕ → ℕ → Bool) → Shape → ℕ → ℕ → ℕ
compared test shape v w = both_lanes (λ n i j. mask n (test n i j)) shape v w

-- the lower and the upper half of the lanes
abbrev pub low_half : List ℕ → Shape → List ℕ
low_half ls shape = take (lane_count shape) ls

abbrev pub high_half : List ℕ → Shape → List ℕ
high_half ls shape = drop (lane_count shape) ls
