use Rattle.grammar_kit.proofs.Loop.{goes_on}
use Rattle.grammar_kit.proofs.entry.read_many.Goals as goal

pub loop-preserved : goal.loop-preserved
loop-preserved g c =
    rw c.in_ok-push.ensures.ok
    (goes_on g.E.Entry.form c.loop.entries c.args.count c.loop.counter c.loop.rest.now c.in_ok-entry.entry c.in_ok-entry.after.now _ c.loop-test.true c.in_ok-entry.ensures c.loop.invariant)
