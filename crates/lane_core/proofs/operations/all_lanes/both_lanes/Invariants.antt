use Rattle.std.proofs.Common.{◌≡◌, ◌-◌}
use Rattle.lane_core.specs.Rows.{binary_lane}
use Rattle.lane_core.proofs.Loops.{both_made_of}
use Rattle.lane_core.proofs.operations.all_lanes.both_lanes.Given as goal

-- the upper lanes are made
abbrev pub invariant-loop-lane : goal.invariant-loop-lane
invariant-loop-lane l = l.made ≡ both_made_of l.bits (binary_lane l.fn.op l.fn.shape) l.fn.v l.fn.w l.lane (l.count - l.lane)
