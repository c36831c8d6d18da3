use Rattle.typing_kit.specs.Steps.{with_top}
use Rattle.valid_new.proofs.Judging.{arms_exactly, flat_judged}
use Rattle.valid_new.proofs.deciding.decide_nested.Goals as goal

pub returns : goal.returns
returns c = λ context labels i is arms.
    flat_judged context labels i (with_top c.args.nested.takes.now c.args.top) c.args.nested.gives.now (arms_exactly context labels i c.args.nested is c.args.top arms) c.args.operands.now c.step.new.operands c.in_ok-met.met c.in_ok-met.ensures c.is_untyped.result c.is_untyped.ensures.untyped c.is_untyped.ensures.typed
