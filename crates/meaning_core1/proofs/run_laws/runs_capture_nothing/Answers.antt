use Rattle.meaning_core1.proofs.RunLaws.{captures_nothing, never_full}
use Rattle.meaning_core1.proofs.run_laws.runs_capture_nothing.Goals as goal

pub returns-clause-captures : goal.returns-clause-captures
returns-clause-captures c = captures_nothing

pub returns-clause-full : goal.returns-clause-full
returns-clause-full c = never_full
