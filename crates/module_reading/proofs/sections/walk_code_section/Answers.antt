use Rattle.std.proofs.Common.{Some}
use Rattle.module_reading.proofs.Adding.{adds_code, no_code, earlier_is_later, earlier_is_first}
use Rattle.module_reading.proofs.sections.walk_code_section.Goals as goal

pub returns-in_default : goal.returns-in_default
returns-in_default g c = λ seen h.
    no_code g.F.ModuleFormat.format g.F.ModuleFormat.means seen c.args.walked.now h c.args.payload.now (rw c.in_default.is at c.in_ok-walk.ensures)

pub returns-then-is_none : goal.returns-then-is_none
returns-then-is_none g c = λ seen h.
    adds_code g.F.ModuleFormat.format g.F.ModuleFormat.means seen c.args.walked.now h c.args.payload.now c.in-Some.walk (rw c.in-Some.is at c.in_ok-walk.ensures) _ (earlier_is_later c.args.walked.now.bodies (Some c.in-Some.walk) c.if-is_none.ensures)

pub returns-else-is_none : goal.returns-else-is_none
returns-else-is_none g c = λ seen h.
    adds_code g.F.ModuleFormat.format g.F.ModuleFormat.means seen c.args.walked.now h c.args.payload.now c.in-Some.walk (rw c.in-Some.is at c.in_ok-walk.ensures) _ (earlier_is_first c.args.walked.now.bodies (Some c.in-Some.walk) c.if-is_none.ensures)
