use Rattle.std.proofs.Common.{◌≡◌, ◌++◌, drop, map}
use Rattle.crossing.specs.Modules.{cross_export}
use Rattle.pass_cross.proofs.parts.cross_exports.Given as goal

-- what is written so far, with what is still to come, is all
abbrev pub invariant-loop-export : goal.invariant-loop-export
invariant-loop-export l = l.out ++ map cross_export (drop l.export-index l.exports) ≡ map cross_export l.exports
