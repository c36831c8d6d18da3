use Rattle.std.proofs.Common.{ℕ, ◌<◌}
use Rattle.valid_mod.specs.Parts.{PartTyped, Exports}
use Rattle.valid_mod.proofs.Names.{HasNames}
use Rattle.valid_mod.proofs.parts.exports.first_export.Given as goal

abbrev pub invariant-loop-place : goal.invariant-loop-place
invariant-loop-place l = record {
  typed : (k : ℕ) → k < l.place → PartTyped l.m Exports k;
  names : HasNames l.names l.m.exports l.place;
}
