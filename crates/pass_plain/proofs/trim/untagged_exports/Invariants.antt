use Rattle.std.proofs.Common.{◌≡◌, ◌++◌, length}
use Rattle.pass_plain.specs.Trimming.{untagged}
use Rattle.pass_plain.proofs.trim.untagged_exports.Given as goal

-- the exports so far, and behind them what stays of the others
abbrev pub invariant-loop-export : goal.invariant-loop-export
invariant-loop-export l = untagged l.initial.rest ≡ l.kept ++ untagged l.rest

abbrev pub decreases-loop-export : goal.decreases-loop-export
decreases-loop-export l = length l.rest
