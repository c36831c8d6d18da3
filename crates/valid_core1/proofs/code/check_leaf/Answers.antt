use Rattle.valid_core1.proofs.Judging.{leaf_untyped, leaf_planned, leaf_one}
use Rattle.valid_core1.proofs.code.check_leaf.Goals as goal

pub returns-in-Untyped : goal.returns-in-Untyped
returns-in-Untyped c = leaf_untyped c.args.scope.now c.args.labels.now c.args.instr.now c.plan_of-plan.result c.args.operands.now c.step.new.operands c.in_ok-step.field-0 c.plan_of-plan.ensures.form c.plan_of-plan.ensures.leaf c.in_ok-step.ensures c.in-Untyped.is

pub returns-in-Planned : goal.returns-in-Planned
returns-in-Planned c = leaf_planned c.args.scope.now c.args.labels.now c.args.instr.now c.plan_of-plan.result c.args.operands.now c.step.new.operands c.in_ok-step.field-0 c.plan_of-plan.ensures.form c.plan_of-plan.ensures.leaf c.in_ok-step.ensures c.in-Planned.is

pub returns-in-One : goal.returns-in-One
returns-in-One c = leaf_one c.args.scope.now c.args.labels.now c.args.instr.now c.plan_of-plan.result c.args.operands.now c.step.new.operands c.in_ok-step.field-0 c.plan_of-plan.ensures.form c.plan_of-plan.ensures.leaf c.in_ok-step.ensures _ c.in-One.is
