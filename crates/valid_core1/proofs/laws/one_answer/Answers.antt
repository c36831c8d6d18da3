use Rattle.valid_core1.proofs.Unique.{one_answer}
use Rattle.valid_core1.proofs.laws.one_answer.Goals as goal

pub returns : goal.returns
returns c = one_answer
