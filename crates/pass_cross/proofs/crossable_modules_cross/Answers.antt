use Rattle.pass_cross.proofs.Whole.{crossable_crosses}
use Rattle.pass_cross.proofs.crossable_modules_cross.Goals as goal

pub returns : goal.returns
returns c p is_typed h = crossable_crosses p is_typed h
