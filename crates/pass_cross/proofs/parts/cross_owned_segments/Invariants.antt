use Rattle.std.proofs.Common.{◌≡◌, ◌++◌, map, length}
use Rattle.crossing.specs.Modules.{cross_segment}
use Rattle.pass_cross.proofs.parts.cross_owned_segments.Given as goal

-- what is written so far, with what is still to come, is all
abbrev pub invariant-loop-segment : goal.invariant-loop-segment
invariant-loop-segment l = l.out ++ map cross_segment l.rest ≡ map cross_segment l.initial.rest

abbrev pub decreases-loop-segment : goal.decreases-loop-segment
decreases-loop-segment l = length l.rest
