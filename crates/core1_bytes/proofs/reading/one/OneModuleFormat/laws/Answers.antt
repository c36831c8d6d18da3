use Rattle.core1_bytes.proofs.Payloads.{laws}
use Rattle.core1_bytes.proofs.reading.one.OneModuleFormat.laws.Goals as goal

pub returns : goal.returns
returns c = laws
