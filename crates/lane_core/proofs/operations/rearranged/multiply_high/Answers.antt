use Rattle.std.proofs.Common.{◌∙◌}
use Rattle.lane_core.proofs.Rearrangements.{multiply_high_both}
use Rattle.lane_core.proofs.operations.rearranged.multiply_high.Goals as goal

pub returns : goal.returns
returns c =
    c.both_lanes.ensures
    ∙ rw (c.pair_shape.ensures, c.extend_high-left.ensures, c.extend_high-right.ensures) (multiply_high_both c.args.sign c.args.paired c.args.v c.args.w)
