use Rattle.std.proofs.Common.{◌∙◌}
use Rattle.lane_core.proofs.Rearrangements.{dot_both}
use Rattle.lane_core.proofs.operations.rearranged.dot.Goals as goal

pub returns : goal.returns
returns c = c.both_lanes.ensures ∙ dot_both c.args.v c.args.w
