-- Powers of two, as a number of w bits needs them.
use Rattle.std.proofs.Common.{◌≡◌, ℕ, ◌+◌, ◌-◌, ◌*◌, ◌^◌, ◌<◌, ◌≤◌, arith, ap, ◌∙◌}
use Rattle.std.proofs.lemmas.Nat.{pow-add}
use Rattle.std.proofs.Math.Nat.{pow-le-pow_right}

-- seven bits more
pub seven_more : (w : ℕ) → 7 < w → 2 ^ w ≡ 128 * 2 ^ (w - 7)
seven_more w lt = let e : w ≡ 7 + (w - 7) = omega arith in ap (λ k. 2 ^ k) e ∙ pow-add 2 7 (w - 7)

-- half and half
pub halves : (w : ℕ) → 0 < w → 2 ^ w ≡ 2 * 2 ^ (w - 1)
halves w lt = let e : w ≡ 1 + (w - 1) = omega arith in ap (λ k. 2 ^ k) e ∙ pow-add 2 1 (w - 1)

pub within_64 : (w : ℕ) → w ≤ 64 → 2 ^ w ≤ 2 ^ 64
within_64 w le = pow-le-pow_right (omega arith) le

pub within_seven : (w : ℕ) → w ≤ 7 → 2 ^ w ≤ 128
within_seven w le = pow-le-pow_right (omega arith) le
