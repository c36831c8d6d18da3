use Rattle.soundness.proofs.Whole.{code_is_safe, calls_are_safe}
use Rattle.soundness.proofs.typed_code_is_safe.Goals as goal

pub returns-clause-code : goal.returns-clause-code
returns-clause-code c = code_is_safe

pub returns-clause-calls : goal.returns-clause-calls
returns-clause-calls c = calls_are_safe
