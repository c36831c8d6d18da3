use Rattle.std.proofs.Common.{◌∙◌}
use Rattle.lane_core.proofs.Rearrangements.{bytes_of_vector}
use Rattle.lane_core.proofs.operations.memory_access.vector_bytes.Goals as goal

pub returns : goal.returns
returns c = c.to_le_bytes.ensures ∙ bytes_of_vector c.args.a.0
