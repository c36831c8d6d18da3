use Rattle.pass_cross.proofs.Typing.{crossed_is_typed}
use Rattle.pass_cross.proofs.crossed_modules_are_typed.Goals as goal

pub returns : goal.returns
returns c p is_typed h short = crossed_is_typed p is_typed h short
