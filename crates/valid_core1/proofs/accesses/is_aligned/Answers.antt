use Rattle.std.proofs.Common.{◌≡◌, ℕ, ◌≤◌, ◌<◌, ◌^◌, nat_le, arith}
use Rattle.std.proofs.Math.Pow.{pow_mono, pow-lt}
use Rattle.std.proofs.lemmas.Bool.Decides.{nat_tests}
use native.Mathlib.Decide.{dec_le}
use Rattle.valid_core1.proofs.accesses.is_aligned.Goals as goal

same_order : (a e : ℕ) → nat_le a e ≡ nat_le (2 ^ a) (2 ^ e)
same_order a e = elim (dec_le a e) [
  | yes h ↦ (let p : 2 ^ a ≤ 2 ^ e = pow_mono h in grind (arith, nat_tests))
  | no h ↦ (let l : e < a = omega arith in let p : 2 ^ e < 2 ^ a = pow-lt l in grind (arith, nat_tests))
]

pub returns : goal.returns
returns c = same_order c.args.at.now.align c.args.exponent
