use Rattle.lower_tool.proofs.Refusals.{one_shown}
use Rattle.lower_tool.proofs.laws.one_run.Goals as goal

pub returns : goal.returns
returns c = one_shown
