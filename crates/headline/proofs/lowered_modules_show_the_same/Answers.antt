use Rattle.headline.proofs.Directions.{lowered_is_same}
use Rattle.headline.proofs.lowered_modules_show_the_same.Goals as goal

pub returns : goal.returns
returns c = lowered_is_same
