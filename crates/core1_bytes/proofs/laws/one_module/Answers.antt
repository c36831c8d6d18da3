use Rattle.module_reading.proofs.OneAnswer.{one_grammar}
use Rattle.core1_bytes.specs.Spells.{one}
use Rattle.core1_bytes.specs.Made.{means}
use Rattle.core1_bytes.proofs.Payloads.{laws}
use Rattle.core1_bytes.proofs.laws.one_module.Goals as goal

pub returns : goal.returns
returns c = λ b m o h k. one_grammar one means laws b m o h.grammar k.grammar
