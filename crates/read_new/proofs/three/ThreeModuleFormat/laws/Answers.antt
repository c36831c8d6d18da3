use Rattle.read_new.proofs.Owed.{three_laws}
use Rattle.read_new.proofs.three.ThreeModuleFormat.laws.Goals as goal

pub returns : goal.returns
returns c = three_laws
