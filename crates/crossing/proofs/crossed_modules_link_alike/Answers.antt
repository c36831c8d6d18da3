use Rattle.crossing.proofs.Interfaces.{interface-cross}
use Rattle.crossing.proofs.crossed_modules_link_alike.Goals as goal

pub returns : goal.returns
returns c = interface-cross
