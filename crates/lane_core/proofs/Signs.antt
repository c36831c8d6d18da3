-- A shift to the right that copies the sign, without signed numbers.
use Rattle.std.proofs.Common.{◌≡◌, ℕ, ◌+◌, ◌-◌, ◌*◌, ◌/◌, ◌%◌, ◌^◌, ◌<◌, ◌≤◌, nat_lt, true, false, cond, refl, sym, ap, ◌∙◌, subst, arith, mod-lt, pow_pos, lit<, to_z, of_z, FitsSigned}
use Rattle.std.specs.Prelude.{ℤ, pos, negsuc, ◌+ℤ◌, ◌*ℤ◌, unsigned_abs}
use Rattle.std.specs.Int.{w128}
use Rattle.std.specs.Int.Signed.{shr_z, mag_shr}
use Rattle.std.proofs.lemmas.Int.{ints, to_z-of_z, fits_signed_from_abs, fits_signed_mul, unsigned_abs-mul}
use Rattle.std.proofs.lemmas.Bool.{lt-ltb, le-ltb}
use Rattle.std.proofs.lemmas.Nat.{pow-add, shr_below, shr_high, le-div, mul-le}
use Rattle.num_core.specs.Integers.{shift_right_signed}
use Rattle.lane_core.specs.LaneNumbers.{shifted_down}

-- all ones, shifted, are all ones of fewer bits
ones_shifted : (n k : ℕ) → k ≤ n → (2 ^ n - 1) / 2 ^ k ≡ 2 ^ (n - k) - 1
ones_shifted n k within =
    let all : (n - k) + k ≡ n = omega arith in
    let power : 2 ^ (n - k) * 2 ^ k ≡ 2 ^ n = sym (pow-add 2 (n - k) k) ∙ ap (λ x. 2 ^ x) all in
    let some : 0 < 2 ^ (n - k) = pow_pos (n - k) in
    let low : 0 < 2 ^ k = pow_pos k in
    let d = 2 ^ (n - k) - 1 in
    let more : d + 1 ≡ 2 ^ (n - k) = omega arith in
    let spread : d * 2 ^ k + 2 ^ k ≡ 2 ^ n = (let split : d * 2 ^ k + 2 ^ k ≡ (d + 1) * 2 ^ k = omega arith in split ∙ ap (λ x. x * 2 ^ k) more ∙ power) in
    let parts : 2 ^ n - 1 ≡ d * 2 ^ k + (2 ^ k - 1) = omega arith in
    ap (λ x. x / 2 ^ k) parts ∙ shr_high d k (2 ^ k - 1) (omega arith)

pub shifts_positive : (n j i : ℕ) → 0 < n → i < 2 ^ (n - 1) → i / 2 ^ (j % n) ≡ shift_right_signed n i j
shifts_positive n j i above lt =
    let k = j % n in
    let count : k < n = mod-lt j above in
    let all : (n - k - 1) + k ≡ n - 1 = omega arith in
    let less : i / 2 ^ k < 2 ^ (n - k - 1) = shr_below i (n - k - 1) k (subst (λ b. i < 2 ^ b) (sym all) lt) in
    let test : nat_lt (i / 2 ^ k) (2 ^ (n - k - 1)) ≡ true = lt-ltb (i / 2 ^ k) (2 ^ (n - k - 1)) less in
    ap (λ t. cond t (i / 2 ^ k) (i / 2 ^ k + (2 ^ n - 2 ^ (n - k)))) (sym test)

pub shifts_negative : (n j i : ℕ) → 0 < n → 2 ^ (n - 1) ≤ i → i / 2 ^ (j % n) + ((2 ^ n - 1) - (2 ^ n - 1) / 2 ^ (j % n)) ≡ shift_right_signed n i j
shifts_negative n j i above ge =
    let k = j % n in
    let count : k < n = mod-lt j above in
    let all : (n - k - 1) + k ≡ n - 1 = omega arith in
    let power : 2 ^ (n - k - 1) * 2 ^ k ≡ 2 ^ (n - 1) = sym (pow-add 2 (n - k - 1) k) ∙ ap (λ x. 2 ^ x) all in
    let more : 2 ^ (n - k - 1) ≤ i / 2 ^ k = le-div (2 ^ (n - k - 1)) i (2 ^ k) (pow_pos k) (omega arith) in
    let test : nat_lt (i / 2 ^ k) (2 ^ (n - k - 1)) ≡ false = le-ltb (i / 2 ^ k) (2 ^ (n - k - 1)) more in
    let within : k ≤ n = omega arith in
    let fewer : (2 ^ n - 1) / 2 ^ k ≡ 2 ^ (n - k) - 1 = ones_shifted n k within in
    let value : i / 2 ^ k + ((2 ^ n - 1) - (2 ^ n - 1) / 2 ^ k) ≡ i / 2 ^ k + (2 ^ n - 2 ^ (n - k)) = omega (arith, fewer, pow_pos (n - k)) in
    value ∙ ap (λ t. cond t (i / 2 ^ k) (i / 2 ^ k + (2 ^ n - 2 ^ (n - k)))) (sym test)

-- std's shift of a signed number is the standard's
shifts_down : (z : ℤ) → shr_z z (2 ^ 15) ≡ shifted_down 15 z
shifts_down (pos i) = refl
shifts_down (negsuc i) = refl

more_fits : (z : ℤ) → unsigned_abs z ≤ 2 ^ 126 → FitsSigned w128 (z +ℤ pos (2 ^ 14))
more_fits z p = fits_signed_from_abs w128 (z +ℤ pos (2 ^ 14)) (omega (arith, ints))

-- what std's calls hand on is cast to bits and back on the way: a product of two signed numbers, and more, shifted
pub product_shifted : (x y : ℤ) → unsigned_abs x ≤ 2 ^ 63 → unsigned_abs y ≤ 2 ^ 63 → to_z w128 (of_z w128 (shr_z (to_z w128 (of_z w128 (to_z w128 (of_z w128 (to_z w128 (of_z w128 x) *ℤ to_z w128 (of_z w128 y))) +ℤ pos (2 ^ 14)))) (2 ^ 15))) ≡ shifted_down 15 (x *ℤ y +ℤ pos (2 ^ 14))
product_shifted x y p q =
    let fits_x : FitsSigned w128 x = fits_signed_from_abs w128 x (omega arith) in
    let fits_y : FitsSigned w128 y = fits_signed_from_abs w128 y (omega arith) in
    let fits : FitsSigned w128 (x *ℤ y) = fits_signed_mul w128 x y (2 ^ 63) (2 ^ 63) p q (lit< tt) in
    let bound : unsigned_abs (x *ℤ y) ≤ 2 ^ 126 = (let product : unsigned_abs x * unsigned_abs y ≤ 2 ^ 63 * 2 ^ 63 = mul-le (unsigned_abs x) (unsigned_abs y) (2 ^ 63) (2 ^ 63) p q in omega (arith, unsigned_abs-mul x y)) in
    let fits_sum : FitsSigned w128 (x *ℤ y +ℤ pos (2 ^ 14)) = more_fits (x *ℤ y) bound in
    let smaller = mag_shr (x *ℤ y +ℤ pos (2 ^ 14)) (2 ^ 15) in
    let fits_shift : FitsSigned w128 (shr_z (x *ℤ y +ℤ pos (2 ^ 14)) (2 ^ 15)) = record { sfits = omega (arith, smaller, fits_sum.sfits) } in
    rw (to_z-of_z w128 x fits_x, to_z-of_z w128 y fits_y, to_z-of_z w128 (x *ℤ y) fits, to_z-of_z w128 (x *ℤ y +ℤ pos (2 ^ 14)) fits_sum, to_z-of_z w128 (shr_z (x *ℤ y +ℤ pos (2 ^ 14)) (2 ^ 15)) fits_shift)
    (shifts_down (x *ℤ y +ℤ pos (2 ^ 14)))
