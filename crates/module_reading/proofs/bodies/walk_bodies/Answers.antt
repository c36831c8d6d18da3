use Rattle.module_reading.proofs.Texts.{too_few, next}
use Rattle.module_reading.proofs.bodies.walk_bodies.Goals as goal

pub returns-in_default : goal.returns-in_default
returns-in_default g c =
    too_few g.F.ModuleFormat.format g.F.ModuleFormat.means c.args.bytes.now c.args.count c.loop-place.place c.loop-place.walk c.loop-place.rest.now c.loop-place.invariant c.loop-place-test.true c.in_default.ensures

pub loop-place-preserved : goal.loop-place-preserved
loop-place-preserved g c =
    next g.F.ModuleFormat.format g.F.ModuleFormat.means c.args.bytes.now c.args.count c.loop-place.place c.loop-place.walk c.loop-place.rest.now c.loop-place.invariant c.in-Some.text.now c.in-Some.after.now c.in_ok-walk.walk c.loop-place-test.true c.in-Some.ensures c.in_ok-walk.ensures
