use Rattle.std.proofs.Common.{refl, sym, ◌∙◌}
use Rattle.typing_kit.specs.Steps.{with_top}
use Rattle.valid_new.proofs.Putting.{exact_of, exact_stuck, exact_reached, exact_unreached}
use Rattle.valid_new.proofs.body.put_nested.Goals as goal

pub returns-then-is_untyped : goal.returns-then-is_untyped
returns-then-is_untyped c = λ context labels e arms. exact_stuck context labels c.args.instr.now (with_top c.args.nested.takes.now c.args.top) c.args.nested.gives.now c.args.first c.args.second (exact_of context labels c.args.instr.now c.args.nested c.args.top c.args.first c.args.second e arms) c.args.operands.now c.step.new.operands c.in_ok-met.met (c.in_ok-met.ensures) (c.is_untyped.ensures.untyped c.if-is_untyped.true)

pub returns-in_ok-push : goal.returns-in_ok-push
returns-in_ok-push c = λ context labels e arms. exact_reached context labels c.args.instr.now (with_top c.args.nested.takes.now c.args.top) c.args.nested.gives.now c.args.first c.args.second (exact_of context labels c.args.instr.now c.args.nested c.args.top c.args.first c.args.second e arms) c.args.operands.now c.step.new.operands c.in_ok-met.met (c.in_ok-met.ensures) (c.is_untyped.ensures.typed c.if-is_untyped.false) c.args.nodes.now c.push.new.self c.in_ok-node.node c.in_ok-head.head (c.in_ok-head.ensures) (c.in_ok-node.ensures) (c.in_ok-push.ensures.ok) (sym c.is_dead-reached.ensures ∙ c.if-reached.true)

pub returns-else-reached : goal.returns-else-reached
returns-else-reached c = λ context labels e arms. exact_unreached context labels c.args.instr.now (with_top c.args.nested.takes.now c.args.top) c.args.nested.gives.now c.args.first c.args.second (exact_of context labels c.args.instr.now c.args.nested c.args.top c.args.first c.args.second e arms) c.args.operands.now c.step.new.operands c.in_ok-met.met (c.in_ok-met.ensures) (c.is_untyped.ensures.typed c.if-is_untyped.false) c.args.nodes.now c.args.nodes.now refl (sym c.is_dead-reached.ensures ∙ c.if-reached.false)
