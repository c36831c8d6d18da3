-- Operators that change how wide lanes are, as operators on single lanes.
use Rattle.std.proofs.Common.{◌≡◌, ℕ, zero, suc, ◌+◌, ◌-◌, ◌*◌, ◌/◌, ◌%◌, ◌^◌, ◌<◌, ◌≤◌, List, [], ◌∷◌, ◌++◌, length, map, take, drop, get_or, set, refl, sym, ap, ◌∙◌, subst, arith, mod-lt, pow_pos, lit≤}
use Rattle.std.specs.Prelude.{bit_or}
use Rattle.std.proofs.Math.Nat.{div-div-eq-div-mul, mod-le, mul-le-mul_left, mul-le-mul_right}
use Rattle.std.proofs.Math.Pow.{mod-mod-pow}
use Rattle.std.proofs.lemmas.List.{map-append, length-set, set_past}
use Rattle.std.proofs.lemmas.Nat.{pow-add, shr-shr, shr_split, field_of, shl_whole, or_shifted}
use Rattle.std.specs.Int.{byte_at, bytes_low_first}
use Rattle.num_core.specs.Bytes.{from_bytes, to_bytes}
use Rattle.num_core.specs.Integers.{wrap, add_of, mul_of}
use Rattle.num_core.proofs.Ranges.{wrap_below}
use Rattle.lane_core.specs.declared.vector.Shape.{Shape}
use Rattle.lane_core.specs.declared.vector.Shape.TheVariants.{I8x16, I16x8, I32x4, I64x2}
use Rattle.lane_core.specs.declared.operations.lane_operators.Sign.{Sign}
use Rattle.lane_core.specs.declared.operations.lane_operators.Paired.{Paired}
use Rattle.lane_core.specs.declared.operations.lane_operators.Paired.TheVariants as paired
use Rattle.lane_core.specs.declared.operations.lane_operators.Unary.TheVariants as unaries
use Rattle.lane_core.specs.declared.operations.lane_operators.Binary.TheVariants as binaries
use Rattle.lane_core.specs.Shapes.{lane_count}
use Rattle.lane_core.specs.Lanes.{lane_bits, cut_into, joined, lanes, from_lanes, lane_by_lane, neighbours}
use Rattle.lane_core.specs.Rearranging.{extend_s, widened_low, widened_high, extend_high, add_pairs, multiply_low, multiply_high, dot, narrow, replace, lane_at}
use Rattle.lane_core.specs.Rows.{extend_by, saturate_by, pair_shape, half_bits, unary_lane, each_of, both_of}
use Rattle.lane_core.proofs.Cuts.{Below, length_cut, length_map, below_cut, below_map, joined_below, joined_cut, cut_joined, part_at}
use Rattle.lane_core.proofs.LaneRanges.{extend_below, unary_below, whole_vector}

-- twice a number, and a number and one above it, so that they compute at literals
abbrev double : ℕ → ℕ
double zero = zero
double (suc k) = suc (suc (double k))

abbrev more_than : ℕ → ℕ → ℕ
more_than zero j = j
more_than (suc k) j = suc (more_than k j)

-- two neighbouring parts are the halves of one part of twice the bits
lower : (m v : ℕ) → v % 2 ^ m ≡ v % 2 ^ (m + m) % 2 ^ m
lower m v = sym (mod-mod-pow v m m)

upper : (m v : ℕ) → v / 2 ^ m % 2 ^ m ≡ v % 2 ^ (m + m) / 2 ^ m
upper m v = sym (field_of v m m)

-- a function of the halves of each part
pairs : (m : ℕ) (f : ℕ → ℕ → ℕ) (e : ℕ → ℕ) (k v : ℕ) → neighbours f (map e (cut_into m (double k) v)) ≡ map (λ i. f (e (i % 2 ^ m)) (e (i / 2 ^ m))) (cut_into (m + m) k v)
pairs m f e zero v = refl
pairs m f e (suc k) v =
    ap (λ x. f (e x) (e (v / 2 ^ m % 2 ^ m)) ∷ neighbours f (map e (cut_into m (double k) (v / 2 ^ m / 2 ^ m)))) (lower m v)
    ∙ ap (λ x. f (e (v % 2 ^ (m + m) % 2 ^ m)) (e x) ∷ neighbours f (map e (cut_into m (double k) (v / 2 ^ m / 2 ^ m)))) (upper m v)
    ∙ ap (λ x. f (e (v % 2 ^ (m + m) % 2 ^ m)) (e (v % 2 ^ (m + m) / 2 ^ m)) ∷ neighbours f (map e (cut_into m (double k) x))) (shr-shr v m m)
    ∙ ap (λ x. f (e (v % 2 ^ (m + m) % 2 ^ m)) (e (v % 2 ^ (m + m) / 2 ^ m)) ∷ x) (pairs m f e k (v / 2 ^ (m + m)))

-- the same of two numbers, the parts of which are joined first
pairs_of_two : (m : ℕ) (f g : ℕ → ℕ → ℕ) (e : ℕ → ℕ) (k v w : ℕ) → neighbours f (lane_by_lane g (map e (cut_into m (double k) v)) (map e (cut_into m (double k) w))) ≡ lane_by_lane (λ i j. f (g (e (i % 2 ^ m)) (e (j % 2 ^ m))) (g (e (i / 2 ^ m)) (e (j / 2 ^ m)))) (cut_into (m + m) k v) (cut_into (m + m) k w)
pairs_of_two m f g e zero v w = refl
pairs_of_two m f g e (suc k) v w =
    let rest = λ (x y : ℕ). neighbours f (lane_by_lane g (map e (cut_into m (double k) x)) (map e (cut_into m (double k) y))) in
    let V = v % 2 ^ (m + m) in
    let W = w % 2 ^ (m + m) in
    ap (λ x. f (g (e x) (e (w % 2 ^ m))) (g (e (v / 2 ^ m % 2 ^ m)) (e (w / 2 ^ m % 2 ^ m))) ∷ rest (v / 2 ^ m / 2 ^ m) (w / 2 ^ m / 2 ^ m)) (lower m v)
    ∙ ap (λ x. f (g (e (V % 2 ^ m)) (e x)) (g (e (v / 2 ^ m % 2 ^ m)) (e (w / 2 ^ m % 2 ^ m))) ∷ rest (v / 2 ^ m / 2 ^ m) (w / 2 ^ m / 2 ^ m)) (lower m w)
    ∙ ap (λ x. f (g (e (V % 2 ^ m)) (e (W % 2 ^ m))) (g (e x) (e (w / 2 ^ m % 2 ^ m))) ∷ rest (v / 2 ^ m / 2 ^ m) (w / 2 ^ m / 2 ^ m)) (upper m v)
    ∙ ap (λ x. f (g (e (V % 2 ^ m)) (e (W % 2 ^ m))) (g (e (V / 2 ^ m)) (e x)) ∷ rest (v / 2 ^ m / 2 ^ m) (w / 2 ^ m / 2 ^ m)) (upper m w)
    ∙ ap (λ x. f (g (e (V % 2 ^ m)) (e (W % 2 ^ m))) (g (e (V / 2 ^ m)) (e (W / 2 ^ m))) ∷ rest x (w / 2 ^ m / 2 ^ m)) (shr-shr v m m)
    ∙ ap (λ x. f (g (e (V % 2 ^ m)) (e (W % 2 ^ m))) (g (e (V / 2 ^ m)) (e (W / 2 ^ m))) ∷ rest (v / 2 ^ (m + m)) x) (shr-shr w m m)
    ∙ ap (λ x. f (g (e (V % 2 ^ m)) (e (W % 2 ^ m))) (g (e (V / 2 ^ m)) (e (W / 2 ^ m))) ∷ x) (pairs_of_two m f g e k (v / 2 ^ (m + m)) (w / 2 ^ (m + m)))

pub add_pairs_each : (sign : Sign) (p : Paired) (v : ℕ) → each_of (unaries.PairSum sign) (pair_shape p) v ≡ add_pairs (extend_by sign) (pair_shape p) v
add_pairs_each sign paired.I16x8 v = ap (joined 16) (sym (pairs 8 (add_of 16) (extend_by sign I16x8) 8 v))
add_pairs_each sign paired.I32x4 v = ap (joined 32) (sym (pairs 16 (add_of 32) (extend_by sign I32x4) 4 v))
add_pairs_each sign paired.I64x2 v = ap (joined 64) (sym (pairs 32 (add_of 64) (extend_by sign I64x2) 2 v))

pub dot_both : (v w : ℕ) → both_of binaries.Dot I32x4 v w ≡ dot v w
dot_both v w = ap (joined 32) (sym (pairs_of_two 16 (add_of 32) (mul_of 32) (extend_s I32x4) 4 v w))

-- the lower and the upper parts
take_cut : (m : ℕ) (f : ℕ → ℕ) (k j v : ℕ) → take k (map f (cut_into m (more_than k j) v)) ≡ map f (cut_into m k v)
take_cut m f zero j v = refl
take_cut m f (suc k) j v = ap (λ x. f (v % 2 ^ m) ∷ x) (take_cut m f k j (v / 2 ^ m))

drop_cut : (m : ℕ) (f : ℕ → ℕ) (k j v : ℕ) → drop k (map f (cut_into m (more_than k j) v)) ≡ map f (cut_into m j (v / 2 ^ (m * k)))
drop_cut m f zero j v =
    let none : m * 0 ≡ 0 = omega arith in
    ap (λ x. map f (cut_into m j x)) (let whole : v ≡ v / 1 = omega arith in whole ∙ ap (λ b. v / 2 ^ b) (sym none))
drop_cut m f (suc k) j v =
    let place : m + m * k ≡ m * suc k = omega arith in
    drop_cut m f k j (v / 2 ^ m) ∙ ap (λ x. map f (cut_into m j x)) (shr-shr v m (m * k) ∙ ap (λ b. v / 2 ^ b) place)

low_lanes : (e : Shape → ℕ → ℕ) (p : Paired) (v : ℕ) → widened_low e (pair_shape p) v ≡ map (e (pair_shape p)) (cut_into (half_bits (pair_shape p)) (lane_count (pair_shape p)) v)
low_lanes e paired.I16x8 v = take_cut 8 (e I16x8) 8 8 v
low_lanes e paired.I32x4 v = take_cut 16 (e I32x4) 4 4 v
low_lanes e paired.I64x2 v = take_cut 32 (e I64x2) 2 2 v

high_lanes : (e : Shape → ℕ → ℕ) (p : Paired) (v : ℕ) → widened_high e (pair_shape p) v ≡ map (e (pair_shape p)) (cut_into (half_bits (pair_shape p)) (lane_count (pair_shape p)) (v / 2 ^ 64))
high_lanes e paired.I16x8 v = drop_cut 8 (e I16x8) 8 8 v
high_lanes e paired.I32x4 v = drop_cut 16 (e I32x4) 4 4 v
high_lanes e paired.I64x2 v = drop_cut 32 (e I64x2) 2 2 v

pub extend_high_each : (sign : Sign) (p : Paired) (v : ℕ) → each_of (unaries.Extend sign) (pair_shape p) (v / 2 ^ 64) ≡ extend_high (extend_by sign) (pair_shape p) v
extend_high_each sign p v = ap (joined (lane_bits (pair_shape p))) (sym (high_lanes (extend_by sign) p v))

-- the lanes of a vector of lanes
lanes_of : (s : Shape) (ls : List ℕ) → length ls ≡ lane_count s → Below (lane_bits s) ls → lanes s (from_lanes s ls) ≡ ls
lanes_of s ls count b = subst (λ k. cut_into (lane_bits s) k (from_lanes s ls) ≡ ls) count (cut_joined (lane_bits s) ls b)

extended_lanes : (sign : Sign) (s : Shape) (v : ℕ) → lanes s (from_lanes s (map (extend_by sign s) (cut_into (half_bits s) (lane_count s) v))) ≡ map (extend_by sign s) (cut_into (half_bits s) (lane_count s) v)
extended_lanes sign s v =
    let parts = cut_into (half_bits s) (lane_count s) v in
    lanes_of s (map (extend_by sign s) parts) (length_map (extend_by sign s) parts ∙ length_cut (half_bits s) (lane_count s) v)
    (below_map (half_bits s) (lane_bits s) (extend_by sign s) (extend_below sign s) parts (below_cut (half_bits s) (lane_count s) v))

multiplied : (s : Shape) (ls rs : List ℕ) → lanes s (from_lanes s ls) ≡ ls → lanes s (from_lanes s rs) ≡ rs → both_of binaries.Mul s (from_lanes s ls) (from_lanes s rs) ≡ from_lanes s (lane_by_lane (mul_of (lane_bits s)) ls rs)
multiplied s ls rs l r =
    ap (λ x. from_lanes s (lane_by_lane (mul_of (lane_bits s)) x (lanes s (from_lanes s rs)))) l
    ∙ ap (λ x. from_lanes s (lane_by_lane (mul_of (lane_bits s)) ls x)) r

pub multiply_low_both : (sign : Sign) (p : Paired) (v w : ℕ) → both_of binaries.Mul (pair_shape p) (from_lanes (pair_shape p) (widened_low (extend_by sign) (pair_shape p) v)) (from_lanes (pair_shape p) (widened_low (extend_by sign) (pair_shape p) w)) ≡ multiply_low (extend_by sign) (pair_shape p) v w
multiply_low_both sign p v w =
    let same = λ (x : ℕ). subst (λ ls. lanes (pair_shape p) (from_lanes (pair_shape p) ls) ≡ ls) (sym (low_lanes (extend_by sign) p x)) (extended_lanes sign (pair_shape p) x) in
    multiplied (pair_shape p) (widened_low (extend_by sign) (pair_shape p) v) (widened_low (extend_by sign) (pair_shape p) w) (same v) (same w)

pub multiply_high_both : (sign : Sign) (p : Paired) (v w : ℕ) → both_of binaries.Mul (pair_shape p) (from_lanes (pair_shape p) (widened_high (extend_by sign) (pair_shape p) v)) (from_lanes (pair_shape p) (widened_high (extend_by sign) (pair_shape p) w)) ≡ multiply_high (extend_by sign) (pair_shape p) v w
multiply_high_both sign p v w =
    let same = λ (x : ℕ). subst (λ ls. lanes (pair_shape p) (from_lanes (pair_shape p) ls) ≡ ls) (sym (high_lanes (extend_by sign) p x)) (extended_lanes sign (pair_shape p) (x / 2 ^ 64)) in
    multiplied (pair_shape p) (widened_high (extend_by sign) (pair_shape p) v) (widened_high (extend_by sign) (pair_shape p) w) (same v) (same w)

-- parts of two numbers, one above the other
joined_append : (n : ℕ) (xs ys : List ℕ) → joined n (xs ++ ys) ≡ joined n ys * 2 ^ (length xs * n) + joined n xs
joined_append n [] ys = let none : 0 * n ≡ 0 = omega arith in rw none (omega arith)
joined_append n (x ∷ xs) ys =
    let power : 2 ^ (n + length xs * n) ≡ 2 ^ n * 2 ^ (length xs * n) = pow-add 2 n (length xs * n) in
    let order : suc (length xs) * n ≡ n + length xs * n = omega arith in
    ap (λ z. x + 2 ^ n * z) (joined_append n xs ys)
    ∙ (let spread : x + 2 ^ n * (joined n ys * 2 ^ (length xs * n) + joined n xs) ≡ joined n ys * (2 ^ n * 2 ^ (length xs * n)) + (x + 2 ^ n * joined n xs) = omega arith in spread)
    ∙ ap (λ q. joined n ys * q + (x + 2 ^ n * joined n xs)) (sym power)
    ∙ ap (λ b. joined n ys * 2 ^ b + (x + 2 ^ n * joined n xs)) (sym order)

beside : (m n k : ℕ) (f : ℕ → ℕ) (v w : ℕ) → k * m ≡ 64 → ((i : ℕ) → i < 2 ^ n → f i < 2 ^ m) → bit_or ((joined m (map f (cut_into n k w)) * 2 ^ 64) % 2 ^ 128) (joined m (map f (cut_into n k v))) ≡ joined m (map f (cut_into n k v ++ cut_into n k w))
beside m n k f v w half within =
    let parts = λ (x : ℕ). map f (cut_into n k x) in
    let count = λ (x : ℕ). length_map f (cut_into n k x) ∙ length_cut n k x in
    let below : (x : ℕ) → joined m (parts x) < 2 ^ 64 =
    (λ x. subst (λ b. joined m (parts x) < 2 ^ b) (ap (λ c. c * m) (count x) ∙ half) (joined_below m (parts x) (below_map n m f within (cut_into n k x) (below_cut n k x)))) in
    ap (λ x. bit_or x (joined m (parts v))) (shl_whole (joined m (parts w)) 64 64 128 (below w) (lit≤ tt))
    ∙ or_shifted (joined m (parts w)) 64 (joined m (parts v)) (below v)
    ∙ ap (λ b. joined m (parts w) * 2 ^ b + joined m (parts v)) (sym (ap (λ c. c * m) (count v) ∙ half))
    ∙ sym (joined_append m (parts v) (parts w))
    ∙ ap (joined m) (sym (map-append f (cut_into n k v) (cut_into n k w)))

half_vector : (p : Paired) → lane_count (pair_shape p) * half_bits (pair_shape p) ≡ 64
half_vector paired.I16x8 = refl
half_vector paired.I32x4 = refl
half_vector paired.I64x2 = refl

pub narrow_beside : (sign : Sign) (p : Paired) (v w : ℕ) → bit_or ((each_of (unaries.Saturate sign) (pair_shape p) w * 2 ^ 64) % 2 ^ 128) (each_of (unaries.Saturate sign) (pair_shape p) v) ≡ narrow (saturate_by sign) (pair_shape p) v w
narrow_beside sign p v w =
    beside (half_bits (pair_shape p)) (lane_bits (pair_shape p)) (lane_count (pair_shape p)) (unary_lane (unaries.Saturate sign) (pair_shape p)) v w (half_vector p) (unary_below (unaries.Saturate sign) (pair_shape p))

-- the bytes of the number that bytes make
joined_bytes : (bs : List ℕ) → joined 8 bs ≡ from_bytes bs
joined_bytes [] = refl
joined_bytes (b ∷ bs) = ap (λ x. b + 256 * x) (joined_bytes bs)

below_bytes : (bs : List ℕ) → ((k : ℕ) → get_or bs k 0 < 2 ^ 8) → Below 8 bs
below_bytes [] b = tt
below_bytes (x ∷ bs) b = (b 0, below_bytes bs (λ k. b (suc k)))

pub bytes_of_number : (bs : List ℕ) → length bs ≡ 16 → ((k : ℕ) → get_or bs k 0 < 2 ^ 8) → cut_into 8 16 (from_bytes bs) ≡ bs
bytes_of_number bs count b =
    ap (cut_into 8 16) (sym (joined_bytes bs))
    ∙ subst (λ k. cut_into 8 k (joined 8 bs) ≡ bs) count (cut_joined 8 bs (below_bytes bs b))

-- one part taken out and another put in
put_part : (n : ℕ) (ls : List ℕ) (at y : ℕ) → at < length ls → joined n (set ls at y) + 2 ^ (n * at) * get_or ls at 0 ≡ joined n ls + 2 ^ (n * at) * y
put_part n [] at y lt = omega arith
put_part n (x ∷ ls) zero y lt = let none : n * 0 ≡ 0 = omega arith in rw none (omega arith)
put_part n (x ∷ ls) (suc at) y lt =
    let within : at < length ls = omega arith in
    let place : n * suc at ≡ n + n * at = omega arith in
    let power : 2 ^ (n + n * at) ≡ 2 ^ n * 2 ^ (n * at) = pow-add 2 n (n * at) in
    let P = 2 ^ (n * at) in
    let J = joined n (set ls at y) in
    let K = joined n ls in
    let g = get_or ls at 0 in
    let before : x + 2 ^ n * J + 2 ^ n * P * g ≡ x + 2 ^ n * (J + P * g) = omega arith in
    let after : x + 2 ^ n * (K + P * y) ≡ x + 2 ^ n * K + 2 ^ n * P * y = omega arith in
    let whole : x + 2 ^ n * J + 2 ^ n * P * g ≡ x + 2 ^ n * K + 2 ^ n * P * y = before ∙ ap (λ z. x + 2 ^ n * z) (put_part n ls at y within) ∙ after in
    subst (λ q. x + 2 ^ n * J + q * g ≡ x + 2 ^ n * K + q * y) (sym (ap (λ b. 2 ^ b) place ∙ power)) whole

below_set : (n : ℕ) (ls : List ℕ) (at y : ℕ) → y < 2 ^ n → Below n ls → Below n (set ls at y)
below_set n [] at y lt b = tt
below_set n (x ∷ ls) zero y lt b = (lt, b.1)
below_set n (x ∷ ls) (suc at) y lt b = (b.0, below_set n ls at y lt b.1)

full_vector : (s : Shape) → lane_count s * lane_bits s ≡ 128
full_vector I8x16 = refl
full_vector I16x8 = refl
full_vector I32x4 = refl
full_vector I64x2 = refl

-- what a vector is with one lane replaced: the steps of the program, as far as they do not overflow
pub record Replaced (v high low made : ℕ) : Type 0 where
  pub taken : high ≤ v
  pub fits : v - high + low < 2 ^ 128
  pub is : v - high + low ≡ made

pub replaced : (s : Shape) (v at old i : ℕ) → v < 2 ^ 128 → at < lane_count s → old ≡ lane_at s at v → Replaced v ((old * 2 ^ (lane_bits s * at)) % 2 ^ 128) ((wrap (lane_bits s) i * 2 ^ (lane_bits s * at)) % 2 ^ 128) (replace s at v i)
replaced s v at old i lt within is =
    let n = lane_bits s in
    let p = lane_bits s * at in
    let ls = lanes s v in
    let y = wrap (lane_bits s) i in
    let part : old ≡ v / 2 ^ p % 2 ^ n = is ∙ part_at n (lane_count s) v at within in
    let old_below : old < 2 ^ n = subst (λ x. x < 2 ^ n) (sym part) (mod-lt (v / 2 ^ p) (pow_pos n)) in
    let next : at + 1 ≤ lane_count s = omega arith in
    let more : n * (at + 1) ≤ n * lane_count s = mul-le-mul_left n next in
    let room : n + p ≤ 128 = (let turned : n * (at + 1) ≡ n + n * at = omega arith in omega (arith, whole_vector s)) in
    let high : (old * 2 ^ p) % 2 ^ 128 ≡ old * 2 ^ p = shl_whole old n p 128 old_below room in
    let low : (y * 2 ^ p) % 2 ^ 128 ≡ y * 2 ^ p = shl_whole y n p 128 (wrap_below n i) room in
    let whole : joined n ls ≡ v = joined_cut n (lane_count s) v (subst (λ b. v < 2 ^ b) (sym (full_vector s)) lt) in
    let at_most : old * 2 ^ p ≤ v = (let small : old ≤ v / 2 ^ p = omega (arith, mod-le (v / 2 ^ p) (2 ^ n)) in omega (arith, mul-le-mul_right (2 ^ p) small, shr_split v p)) in
    let count : length ls ≡ lane_count s = length_cut n (lane_count s) v in
    let sum : joined n (set ls at y) + 2 ^ p * get_or ls at 0 ≡ joined n ls + 2 ^ p * y = put_part n ls at y (omega arith) in
    let old_sum : joined n (set ls at y) + 2 ^ p * old ≡ v + 2 ^ p * y = subst (λ x. joined n (set ls at y) + 2 ^ p * x ≡ v + 2 ^ p * y) (sym is) (sum ∙ ap (λ x. x + 2 ^ p * y) whole) in
    let made : v - old * 2 ^ p + y * 2 ^ p ≡ joined n (set ls at y) = omega arith in
    let size : length (set ls at y) * n ≡ 128 = ap (λ c. c * n) (length-set ls at y ∙ count) ∙ full_vector s in
    let bound : joined n (set ls at y) < 2 ^ 128 = subst (λ b. joined n (set ls at y) < 2 ^ b) size (joined_below n (set ls at y) (below_set n ls at y (wrap_below n i) (below_cut n (lane_count s) v))) in
    record {
      taken = rw high at_most;
      fits = rw (high, low) (omega arith);
      is = rw (high, low) made;
    }

-- the same, by the program's variables
pub replaced_by : (s : Shape) (v at old new i bits place : ℕ) → v < 2 ^ 128 → at < lane_count s → bits ≡ lane_bits s → place ≡ at → old ≡ lane_at s at v → new ≡ wrap (lane_bits s) i → Replaced v ((old * 2 ^ (bits * place)) % 2 ^ 128) ((new * 2 ^ (bits * place)) % 2 ^ 128) (replace s at v i)
replaced_by s v at old new i bits place lt within bits_is place_is old_is new_is =
    rw (bits_is, place_is, new_is) (replaced s v at old i lt within old_is)

-- there is no lane of a number that is too great
pub none_replaced : (s : Shape) (v at i : ℕ) → v < 2 ^ 128 → lane_count s ≤ at → v ≡ replace s at v i
none_replaced s v at i lt past =
    let n = lane_bits s in
    let count : length (lanes s v) ≡ lane_count s = length_cut n (lane_count s) v in
    sym (joined_cut n (lane_count s) v (subst (λ b. v < 2 ^ b) (sym (full_vector s)) lt))
    ∙ ap (joined n) (sym (set_past (lanes s v) at (wrap n i) (omega arith)))

-- std's bytes of a number are the standard's
byte_is : (i n : ℕ) → byte_at i n ≡ n / 256 ^ i % 256
byte_is zero n = let whole : n / 1 ≡ n = omega arith in ap (λ x. x % 256) (sym whole)
byte_is (suc i) n = refl

low_bytes : (i k n : ℕ) → bytes_low_first i k n ≡ to_bytes k (n / 256 ^ i)
low_bytes i zero n = refl
low_bytes i (suc k) n =
    let next : i + 1 ≡ suc i = omega arith in
    let power : 256 ^ suc i ≡ 256 ^ i * 256 = ap (λ x. 256 ^ x) (sym next) ∙ pow-add 256 i 1 in
    ap (λ b. b ∷ bytes_low_first (suc i) k n) (byte_is i n)
    ∙ ap (λ x. n / 256 ^ i % 256 ∷ x) (low_bytes (suc i) k n ∙ ap (λ q. to_bytes k (n / q)) power ∙ ap (to_bytes k) (sym (div-div-eq-div-mul n (256 ^ i) 256)))

pub bytes_of_vector : (v : ℕ) → bytes_low_first 0 16 v ≡ to_bytes 16 v
bytes_of_vector v = low_bytes 0 16 v ∙ ap (to_bytes 16) (let whole : v / 1 ≡ v = omega arith in whole)
