use Rattle.std.proofs.Common.{ℕ, ◌<◌}
use Rattle.valid_core1.specs.Parts.{PartTyped, Exports}
use Rattle.valid_core1.proofs.Names.{HasNames}
use Rattle.valid_core1.proofs.parts.exports.first_export.Given as goal

abbrev pub invariant-loop-place : goal.invariant-loop-place
invariant-loop-place l = record {
  typed : (k : ℕ) → k < l.place → PartTyped l.source Exports k;
  names : HasNames l.names l.source.exports l.place;
}
