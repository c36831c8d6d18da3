use Rattle.crossing.proofs.Scripts.{crosses_runs}
use Rattle.crossing.proofs.crossed_modules_run_alike.Goals as goal

pub returns : goal.returns
returns c = crosses_runs
