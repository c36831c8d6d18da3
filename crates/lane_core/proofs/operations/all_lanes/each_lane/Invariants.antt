use Rattle.std.proofs.Common.{◌≡◌, ◌-◌}
use Rattle.lane_core.specs.Rows.{unary_lane}
use Rattle.lane_core.proofs.Loops.{made_of}
use Rattle.lane_core.proofs.operations.all_lanes.each_lane.Given as goal

-- the upper lanes are made
abbrev pub invariant-loop-lane : goal.invariant-loop-lane
invariant-loop-lane l = l.made ≡ made_of l.read l.given (unary_lane l.fn.op l.fn.shape) l.fn.v l.lane (l.count - l.lane)
