use Rattle.std.proofs.Common.{arith}
use Rattle.lane_core.specs.Lanes.{lane_bits}
use Rattle.lane_core.proofs.LaneRanges.{some_bits}
use Rattle.lane_core.proofs.Signs.{shifts_positive, shifts_negative}
use Rattle.lane_core.proofs.operations.one_lane.shift_right_signed.Goals as goal

pub returns-then-i-top_bit : goal.returns-then-i-top_bit
returns-then-i-top_bit c =
    rw c.lane_bits.ensures (shifts_positive (lane_bits c.args.shape) c.args.count c.args.i (some_bits c.args.shape) (omega (arith, c.top_bit.ensures)))

pub returns-else-i-top_bit : goal.returns-else-i-top_bit
returns-else-i-top_bit c =
    rw (c.lane_bits.ensures, c.all_ones-all.ensures) (shifts_negative (lane_bits c.args.shape) c.args.count c.args.i (some_bits c.args.shape) (omega (arith, c.top_bit.ensures)))
