-- A signed number of so many bits is told by its bits.
use Rattle.std.proofs.Common.{◌≡◌, ℕ, ◌<◌, ℤ, pos, negsuc, ap, arith}
use Rattle.wasm_frame.specs.Signed.{bits_of, FitsBits}
use Rattle.wasm_frame.proofs.Powers.{halves}

pub bits_apart : (w : ℕ) (y z : ℤ) → 0 < w → FitsBits w y → FitsBits w z → bits_of w y ≡ bits_of w z → y ≡ z
bits_apart w (pos m) (pos n) lt p q e = ap pos e
bits_apart w (pos m) (negsuc n) lt p q e = absurd (omega (arith, halves w lt))
bits_apart w (negsuc m) (pos n) lt p q e = absurd (omega (arith, halves w lt))
bits_apart w (negsuc m) (negsuc n) lt p q e = ap negsuc (omega (arith, halves w lt))
