use Rattle.std.proofs.Common.{◌∙◌}
use Rattle.lane_core.proofs.Rearrangements.{multiply_low_both}
use Rattle.lane_core.proofs.operations.rearranged.multiply_low.Goals as goal

pub returns : goal.returns
returns c =
    c.both_lanes.ensures
    ∙ rw (c.pair_shape.ensures, c.extend_low-left.ensures, c.extend_low-right.ensures) (multiply_low_both c.args.sign c.args.paired c.args.v c.args.w)
