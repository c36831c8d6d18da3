use Rattle.lower_tool.proofs.Refusals.{one_text, text_not_fine}
use Rattle.lower_tool.proofs.laws.one_verdict.Goals as goal

pub returns-clause-one_text : goal.returns-clause-one_text
returns-clause-one_text c = one_text

pub returns-clause-not_fine : goal.returns-clause-not_fine
returns-clause-not_fine c = text_not_fine
