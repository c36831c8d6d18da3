use Rattle.std.proofs.Common.{◌≡◌, ℕ, ◌<◌, []}
use Rattle.valid_core1.specs.Parts.{BodyTyped}
use Rattle.valid_core1.proofs.bodies.first_body.Given as goal

abbrev pub invariant-loop-place : goal.invariant-loop-place
invariant-loop-place l = record {
  typed : (k : ℕ) → k < l.place → BodyTyped l.m k;
  labels : l.labels ≡ [];
}
