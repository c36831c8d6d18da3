use Rattle.wasm_frame.proofs.Frames.{when_ok, when_bad_size, when_bad_order, when_few}
use Rattle.wasm_frame.proofs.sections.sections.Goals as goal

pub returns-clause-ok : goal.returns-clause-ok
returns-clause-ok c = when_ok c.args.v c.args.b.now c.walk.result c.walk.ensures.tells

pub returns-clause-bad_size : goal.returns-clause-bad_size
returns-clause-bad_size c = when_bad_size c.args.v c.args.b.now c.walk.result c.walk.ensures.tells

pub returns-clause-bad_order : goal.returns-clause-bad_order
returns-clause-bad_order c = when_bad_order c.args.v c.args.b.now c.walk.result c.walk.ensures.tells

pub returns-clause-few : goal.returns-clause-few
returns-clause-few c = when_few c.args.v c.args.b.now c.walk.result c.walk.ensures.tells
