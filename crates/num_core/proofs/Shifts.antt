-- That a sign extension is two shifts, one to the left and one to the right with the sign.
use Rattle.std.proofs.Common.{◌≡◌, ℕ, ◌+◌, ◌-◌, ◌*◌, ◌/◌, ◌%◌, ◌^◌, ◌<◌, ap, ◌∙◌, arith, mod-eq_of_lt, lit<}
use Rattle.std.proofs.lemmas.Nat.{field_of, shl-shr}
use Rattle.num_core.specs.Integers.{wrap, extend_signed, shift_left, shift_right_signed, convert}
use Rattle.num_core.specs.declared.operators.Conv.TheVariants.{S8of32, S16of32}

-- the lowest m bits, moved to the top of m + k bits and down again
moved : (m k x : ℕ) → (x * 2 ^ k) % 2 ^ (m + k) / 2 ^ k ≡ x % 2 ^ m
moved m k x = field_of (x * 2 ^ k) m k ∙ ap (λ y. y % 2 ^ m) (shl-shr x k)

-- at any width
pub shifts_extend : (m k x : ℕ) → 0 < m → shift_right_signed (m + k) (shift_left (m + k) x k) k ≡ extend_signed m (m + k) (wrap m x)
shifts_extend m k x pos =
    let below : k < m + k = omega arith in
    let count : k % (m + k) ≡ k = mod-eq_of_lt below in
    let left : m + k - k ≡ m = omega arith in
    ap (λ c. extend_signed (m + k - c) (m + k) ((x * 2 ^ c) % 2 ^ (m + k) / 2 ^ c)) count
    ∙ ap (λ w. extend_signed w (m + k) ((x * 2 ^ k) % 2 ^ (m + k) / 2 ^ k)) left
    ∙ ap (extend_signed m (m + k)) (moved m k x)

-- i32.extend8_s and i32.extend16_s
pub shifts_extend8 : (x : ℕ) → shift_right_signed 32 (shift_left 32 x 24) 24 ≡ convert S8of32 x
shifts_extend8 x = shifts_extend 8 24 x (lit< tt)

pub shifts_extend16 : (x : ℕ) → shift_right_signed 32 (shift_left 32 x 16) 16 ≡ convert S16of32 x
shifts_extend16 x = shifts_extend 16 16 x (lit< tt)
