use Rattle.grammar_kit.proofs.Loop.{goes_on}
use Rattle.code_new.specs.Types.{value_type}
use Rattle.code_new.proofs.immediates.read_many_types.Goals as goal

pub loop-preserved : goal.loop-preserved
loop-preserved c =
    rw c.in_ok-push.ensures.ok
    (goes_on value_type c.loop.types c.args.count c.loop.counter c.loop.rest.now c.in_ok-ty.ty c.in_ok-ty.after.now _ c.loop-test.true (rw c.in_ok-ty.ensures.ok_part at c.split_value_type.ensures) c.loop.invariant)
