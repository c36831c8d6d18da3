use Rattle.meaning_new.proofs.RunLaws.{trace_not_full}
use Rattle.meaning_new.proofs.run_laws.runs_are_never_full.Goals as goal

pub returns : goal.returns
returns c = trace_not_full
