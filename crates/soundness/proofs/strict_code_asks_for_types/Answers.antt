use Rattle.soundness.proofs.Whole.{asks_for_types}
use Rattle.soundness.proofs.strict_code_asks_for_types.Goals as goal

pub returns : goal.returns
returns c = asks_for_types
