use Rattle.valid_mod.proofs.Unique.{one_answer}
use Rattle.valid_mod.proofs.laws.one_answer.Goals as goal

pub returns : goal.returns
returns c = one_answer
