use Rattle.valid_core1.proofs.Rules.{same_rules}
use Rattle.valid_core1.proofs.laws.same_rules.Goals as goal

pub returns : goal.returns
returns c = same_rules
