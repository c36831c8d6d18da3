use Rattle.module_reading.proofs.OneAnswer.{only}
use Rattle.module_reading.proofs.reading.read_file.Goals as goal

pub returns-clause-only : goal.returns-clause-only
returns-clause-only g c =
    let t = g.F.ModuleFormat in
    only t.format t.means c.laws.ensures c.args.file.now.bytes c.read_steps.result c.read_steps.ensures
