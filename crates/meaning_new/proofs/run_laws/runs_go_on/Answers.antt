use Rattle.host_kit.proofs.Marks.{begins_answers, captured_grows}
use Rattle.meaning_new.specs.Runs.{trace}
use Rattle.meaning_new.proofs.RunLaws.{trace_goes_on, bounded_goes_on, depth_grows}
use Rattle.meaning_new.proofs.run_laws.runs_go_on.Goals as goal

pub returns-clause-trace : goal.returns-clause-trace
returns-clause-trace c = trace_goes_on

pub returns-clause-bounded : goal.returns-clause-bounded
returns-clause-bounded c = bounded_goes_on

pub returns-clause-depth : goal.returns-clause-depth
returns-clause-depth c = depth_grows

pub returns-clause-answers : goal.returns-clause-answers
returns-clause-answers c = λ m s n k le. begins_answers (trace m s n) (trace m s k) (trace_goes_on m s n k le)

pub returns-clause-captures : goal.returns-clause-captures
returns-clause-captures c = λ m s n k le. captured_grows (trace m s n) (trace m s k) (trace_goes_on m s n k le)
