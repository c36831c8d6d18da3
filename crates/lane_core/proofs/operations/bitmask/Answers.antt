use Rattle.std.proofs.Common.{◌≤◌, ◌*◌, ◌^◌, arith, pow_mono}
use Rattle.lane_core.specs.declared.operations.lane_operators.Unary.TheVariants.{Top}
use Rattle.lane_core.specs.Shapes.{lane_count}
use Rattle.lane_core.specs.Lanes.{lane_bits}
use Rattle.lane_core.specs.Rows.{unary_lane}
use Rattle.lane_core.proofs.LaneRanges.{unary_below, few_lanes}
use Rattle.lane_core.proofs.Loops.{each_below}
use Rattle.lane_core.proofs.operations.bitmask.Goals as goal

pub overflow_cast-result : goal.overflow_cast-result
overflow_cast-result c =
    let s = c.args.shape in
    let below = each_below (lane_bits s) 1 (lane_count s) (unary_lane Top s) c.args.v (unary_below Top s) in
    let most : 2 ^ (lane_count s * 1) ≤ 2 ^ 32 = pow_mono (few_lanes s) in
    record { fits = omega (arith, c.each_lane.ensures, below, most) }
