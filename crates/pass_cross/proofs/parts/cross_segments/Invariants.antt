use Rattle.std.proofs.Common.{◌≡◌, ◌++◌, drop, map}
use Rattle.crossing.specs.Modules.{cross_segment}
use Rattle.pass_cross.proofs.parts.cross_segments.Given as goal

-- what is written so far, with what is still to come, is all
abbrev pub invariant-loop-segment : goal.invariant-loop-segment
invariant-loop-segment l = l.out ++ map cross_segment (drop l.segment-index l.segments) ≡ map cross_segment l.segments
