use Rattle.std.proofs.Common.{refl, sym, ◌∙◌}
use Rattle.valid_new.proofs.Judging.{planned_stuck}
use Rattle.valid_new.proofs.Planned.{planned_reached, planned_unreached}
use Rattle.valid_new.proofs.body.type_planned.Goals as goal

pub returns-then-is_untyped : goal.returns-then-is_untyped
returns-then-is_untyped c = λ context labels p l. planned_stuck context labels c.args.instr.now c.args.plan c.args.operands.now c.step.new.operands c.in_ok-met.met p l (c.in_ok-met.ensures) (c.is_untyped.ensures.untyped c.if-is_untyped.true)

pub returns-in_ok-push : goal.returns-in_ok-push
returns-in_ok-push c = λ context labels p l. planned_reached context labels c.args.instr.now c.args.plan c.args.operands.now c.step.new.operands c.in_ok-met.met p l (c.in_ok-met.ensures) (c.is_untyped.ensures.typed c.if-is_untyped.false) c.args.nodes.now c.push.new.self c.in_ok-leaf_of.field-0 (c.in_ok-leaf_of.ensures) (c.in_ok-push.ensures.ok) (sym c.is_dead-reached.ensures ∙ c.if-reached.true)

pub returns-else-reached : goal.returns-else-reached
returns-else-reached c = λ context labels p l. planned_unreached context labels c.args.instr.now c.args.plan c.args.operands.now c.step.new.operands c.in_ok-met.met p l (c.in_ok-met.ensures) (c.is_untyped.ensures.typed c.if-is_untyped.false) c.args.nodes.now c.args.nodes.now refl (sym c.is_dead-reached.ensures ∙ c.if-reached.false)
