use Rattle.std.proofs.Common.{[], reverse, ap}
use Rattle.typed_trees.specs.Typed.{module_of}
use Rattle.meaning_new.specs.Host.{host_call}
use Rattle.run_kit.specs.Narrowing.{part_act, part_plain_res}
use Rattle.run_new.specs.States.{unbounded}
use Rattle.run_new.proofs.Called.{no_reply, with_reply}
use Rattle.run_new.proofs.program.Program.answer.Goals as goal

pub returns-in-None : goal.returns-in-None
returns-in-None c =
    no_reply (λ operands. part_act unbounded (host_call (module_of c.args.self.now) c.args.import) (record { operands = operands; locals = []; state = c.args.state.now }))
    (reverse c.in_order.result.now) c.args.operands.now.used c.args.import c.in_ok-call_host.field-0 c.call_host.new.state (ap (part_plain_res unbounded) (c.in_ok-call_host.ensures [])) c.in_order.ensures.back c.in-None.is c.args.operands.now c.clear.new.self c.clear.ensures

pub returns-in_ok-push_values-in-Some : goal.returns-in_ok-push_values-in-Some
returns-in_ok-push_values-in-Some c =
    with_reply (λ operands. part_act unbounded (host_call (module_of c.args.self.now) c.args.import) (record { operands = operands; locals = []; state = c.args.state.now }))
    (reverse c.in_order.result.now) c.args.operands.now.used c.args.import c.in_ok-call_host.field-0 c.call_host.new.state (ap (part_plain_res unbounded) (c.in_ok-call_host.ensures [])) c.in_order.ensures.back c.in-Some.values c.in-Some.is c.args.operands.now c.clear-in-Some.new.self c.push_values.new.operands c.clear-in-Some.ensures c.in_ok-push_values-in-Some.ensures
