use Rattle.module_reading.proofs.OneAnswer.{one_grammar, one_answer}
use Rattle.read_new.specs.Sizes.{means}
use Rattle.read_new.specs.Spells.{three}
use Rattle.read_new.proofs.Owed.{three_laws}
use Rattle.read_new.proofs.laws.one_module.Goals as goal

pub returns-clause-modules : goal.returns-clause-modules
returns-clause-modules c = λ b m o h k. one_grammar three means three_laws b m o h.grammar k.grammar

pub returns-clause-answers : goal.returns-clause-answers
returns-clause-answers c = one_answer three means three_laws
