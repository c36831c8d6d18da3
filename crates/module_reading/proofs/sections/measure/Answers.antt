use Rattle.std.proofs.Common.{sym, ◌∙◌}
use Rattle.module_reading.proofs.Modules.{bad_body, with_bodies}
use Rattle.module_reading.proofs.sections.measure.Goals as goal

pub returns-in-Misfit : goal.returns-in-Misfit
returns-in-Misfit g c =
    let t = g.F.ModuleFormat in
    bad_body t.format t.means c.requires.laws c.args.file.now c.in_ok-walked.walked c.in_ok-walked.ensures c.in-Misfit.place (sym c.unwrap_or-walk.ensures ∙ c.in-Misfit.is)

pub returns-in-Measured : goal.returns-in-Measured
returns-in-Measured g c =
    let t = g.F.ModuleFormat in
    with_bodies t.format t.means c.requires.laws c.args.file.now c.in_ok-walked.walked c.in_ok-walked.ensures c.in-Measured.bodies (sym c.unwrap_or-walk.ensures ∙ c.in-Measured.is)
