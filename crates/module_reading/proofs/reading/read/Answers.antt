use Rattle.module_reading.proofs.OneAnswer.{only}
use Rattle.module_reading.proofs.reading.read.Goals as goal

pub returns-clause-only : goal.returns-clause-only
returns-clause-only g c =
    let t = g.F.ModuleFormat in
    only t.format t.means c.laws.ensures c.args.b.now c.read_bytes.result c.read_bytes.ensures
