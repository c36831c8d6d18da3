use Rattle.module_reading.proofs.Adding.{adds_entries}
use Rattle.module_reading.proofs.sections.walk_entries.Goals as goal

pub returns-in_ok-push-in-Some : goal.returns-in_ok-push-in-Some
returns-in_ok-push-in-Some g c = λ seen h.
    adds_entries g.F.ModuleFormat.format g.F.ModuleFormat.means seen c.args.walked.now h c.args.id c.args.payload.now c.requires.no_custom c.requires.no_code
    c.in-Some.sizes (rw c.in-Some.is at c.in_ok-sizes.ensures) _ c.in_ok-push-in-Some.ensures.ok
