use Rattle.std.proofs.Common.{◌∙◌, ◌<◌, sym, arith}
use Rattle.lane_core.specs.Shapes.{lane_count}
use Rattle.lane_core.specs.Lanes.{lane_bits}
use Rattle.lane_core.proofs.Cuts.{part_at}
use Rattle.lane_core.proofs.operations.shapes.lane_at.Goals as goal

pub returns-then-lane-from-clause-value : goal.returns-then-lane-from-clause-value
returns-then-lane-from-clause-value c =
    let within : c.args.lane < lane_count c.args.shape = omega (arith, c.from.ensures, c.lane_count.ensures) in
    c.lowest.ensures ∙ rw c.lane_bits-bits.ensures (sym (part_at (lane_bits c.args.shape) (lane_count c.args.shape) c.args.v c.args.lane within))
