use Rattle.std.proofs.Common.{◌∙◌}
use Rattle.lane_core.proofs.Rearrangements.{extend_high_each}
use Rattle.lane_core.proofs.operations.rearranged.extend_high.Goals as goal

pub returns : goal.returns
returns c = c.each_lane.ensures ∙ rw c.pair_shape.ensures (extend_high_each c.args.sign c.args.paired c.args.v)
