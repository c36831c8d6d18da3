use Rattle.std.proofs.Common.{[], reverse}
use Rattle.meaning_core1.specs.Hosting.{call_host}
use Rattle.run_core1.proofs.Called.{no_reply, with_reply}
use Rattle.run_core1.proofs.program.Program.answer.Goals as goal

pub returns-in-None : goal.returns-in-None
returns-in-None c =
    no_reply (λ operands. call_host c.args.self.now c.args.import (record { operands = operands; locals = []; state = c.args.state.now }))
    (reverse c.in_order.result.now) c.args.operands.now.used c.args.import c.in_ok-call_host.field-0 c.call_host.new.state (c.in_ok-call_host.ensures []) c.in_order.ensures.back c.in-None.is c.args.operands.now c.clear.new.self c.clear.ensures

pub returns-in_ok-push_values-in-Some : goal.returns-in_ok-push_values-in-Some
returns-in_ok-push_values-in-Some c =
    with_reply (λ operands. call_host c.args.self.now c.args.import (record { operands = operands; locals = []; state = c.args.state.now }))
    (reverse c.in_order.result.now) c.args.operands.now.used c.args.import c.in_ok-call_host.field-0 c.call_host.new.state (c.in_ok-call_host.ensures []) c.in_order.ensures.back c.in-Some.values c.in-Some.is c.args.operands.now c.clear-in-Some.new.self c.push_values.new.operands c.clear-in-Some.ensures c.in_ok-push_values-in-Some.ensures
