use Rattle.lane_core.proofs.Rearrangements.{narrow_beside}
use Rattle.lane_core.proofs.operations.rearranged.narrow.Goals as goal

pub returns : goal.returns
returns c =
    rw (c.each_lane-high.ensures, c.each_lane-low.ensures, c.pair_shape-shape.ensures) (narrow_beside c.args.sign c.args.paired c.args.v c.args.w)
