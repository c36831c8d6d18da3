use Rattle.module_reading.proofs.OneAnswer.{one_answer}
use Rattle.core1_bytes.specs.Spells.{one}
use Rattle.core1_bytes.specs.Made.{means}
use Rattle.core1_bytes.proofs.Payloads.{laws}
use Rattle.core1_bytes.proofs.laws.one_answer.Goals as goal

pub returns : goal.returns
returns c = one_answer one means laws
