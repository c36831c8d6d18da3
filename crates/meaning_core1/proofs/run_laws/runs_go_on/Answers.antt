use Rattle.host_kit.proofs.Marks.{begins_answers}
use Rattle.meaning_core1.specs.Runs.{trace1}
use Rattle.meaning_core1.proofs.RunLaws.{trace_goes_on, depth_grows}
use Rattle.meaning_core1.proofs.run_laws.runs_go_on.Goals as goal

pub returns-clause-trace : goal.returns-clause-trace
returns-clause-trace c = trace_goes_on

pub returns-clause-depth : goal.returns-clause-depth
returns-clause-depth c = depth_grows

pub returns-clause-answers : goal.returns-clause-answers
returns-clause-answers c = λ m s n k le. begins_answers (trace1 m s n) (trace1 m s k) (trace_goes_on m s n k le)
