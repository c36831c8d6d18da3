use Rattle.std.proofs.Common.{◌≡◌, ◌-◌}
use Rattle.lane_core.specs.Lanes.{cut_into}
use Rattle.lane_core.proofs.Loops.{all_set}
use Rattle.lane_core.proofs.operations.all_lanes.all_true.Given as goal

-- the test of all lanes is that of those that are left
abbrev pub invariant-loop-lane : goal.invariant-loop-lane
invariant-loop-lane l = all_set (cut_into l.bits (l._lane-end - l._lane) l.rest) ≡ all_set (cut_into l.bits l._lane-end l.fn.v)
