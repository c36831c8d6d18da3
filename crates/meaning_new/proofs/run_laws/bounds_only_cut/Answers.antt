use Rattle.meaning_new.proofs.RunLaws.{bounded_run, trace_cut}
use Rattle.meaning_new.proofs.run_laws.bounds_only_cut.Goals as goal

pub returns-clause-own : goal.returns-clause-own
returns-clause-own c = bounded_run

pub returns-clause-cut : goal.returns-clause-cut
returns-clause-cut c = trace_cut
