-- A large alignment is that of no access.
use Rattle.std.proofs.Common.{◌≡◌, ℕ, ◌≤◌, ◌^◌, false, nat_le, arith}
use Rattle.std.proofs.Math.Pow.{pow_mono}

pub too_large : (align bytes : ℕ) → 32 ≤ align → bytes ≤ 16 → false ≡ nat_le (2 ^ align) bytes
too_large align bytes a b = let large : 2 ^ 32 ≤ 2 ^ align = pow_mono a in grind (arith, large)
