use Rattle.std.proofs.Common.{◌≡◌, ◌++◌, drop, map}
use Rattle.crossing.specs.Modules.{cross_limits}
use Rattle.pass_cross.proofs.parts.cross_tables.Given as goal

-- what is written so far, with what is still to come, is all
abbrev pub invariant-loop-table : goal.invariant-loop-table
invariant-loop-table l = l.out ++ map (λ t. cross_limits t.limits) (drop l.table-index l.tables) ≡ map (λ t. cross_limits t.limits) l.tables
