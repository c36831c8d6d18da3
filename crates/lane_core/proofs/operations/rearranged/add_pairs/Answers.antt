use Rattle.std.proofs.Common.{◌∙◌}
use Rattle.lane_core.proofs.Rearrangements.{add_pairs_each}
use Rattle.lane_core.proofs.operations.rearranged.add_pairs.Goals as goal

pub returns : goal.returns
returns c = c.each_lane.ensures ∙ rw c.pair_shape.ensures (add_pairs_each c.args.sign c.args.paired c.args.v)
