use Rattle.module_reading.proofs.Adding.{adds_custom}
use Rattle.module_reading.proofs.sections.walk_section.Goals as goal

pub returns-in-0 : goal.returns-in-0
returns-in-0 g c = λ seen h.
    rw c.in-0.is (adds_custom g.F.ModuleFormat.format g.F.ModuleFormat.means seen c.args.walked.now h c.args.payload.now c.is_custom.result c.is_custom.ensures)
