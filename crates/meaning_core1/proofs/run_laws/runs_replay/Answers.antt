use Rattle.meaning_core1.proofs.RunLaws.{trace_replays, depth_replays}
use Rattle.meaning_core1.proofs.run_laws.runs_replay.Goals as goal

pub returns-clause-trace : goal.returns-clause-trace
returns-clause-trace c = trace_replays

pub returns-clause-depth : goal.returns-clause-depth
returns-clause-depth c = depth_replays
