use Rattle.valid_new.proofs.Judging.{planned_judged}
use Rattle.valid_new.proofs.deciding.decide_planned.Goals as goal

pub returns : goal.returns
returns c = λ context labels i p l.
    planned_judged context labels i c.args.plan c.args.operands.now c.step.new.operands c.in_ok-met.met p l c.in_ok-met.ensures c.is_untyped.result c.is_untyped.ensures.untyped c.is_untyped.ensures.typed
