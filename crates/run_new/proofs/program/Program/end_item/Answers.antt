use Rattle.std.proofs.Common.{sym, subst}
use Rattle.machine_kit.specs.Acts.{ended_by}
use Rattle.machine_kit.specs.Calls.{EndedAs}
use Rattle.typed_trees.specs.Typed.{module_of}
use Rattle.run_kit.specs.Narrowing.{part_task}
use Rattle.meaning_new.specs.Runs.{item_task, answered}
use Rattle.run_new.specs.States.{unbounded}
use Rattle.run_new.specs.Items.{NextIs}
use Rattle.run_new.proofs.Ending.{ends}
use Rattle.run_new.proofs.program.Program.end_item.Goals as goal

pub returns-in_ok-call_ended-in-Call : goal.returns-in_ok-call_ended-in-Call
returns-in_ok-call_ended-in-Call c locals =
    let m = module_of c.args.self.now in
    let is = subst (λ r. NextIs m c.args.place (item_task m c.args.place c.args.item.now) r) c.in-Call.is (c.next.ensures c.args.place) in
    subst (λ t. EndedAs (part_task unbounded t) (ended_by c.args.jump (record { operands = c.args.operands.now.used; locals = locals; state = c.args.state.now })) c.in_ok-call_ended-in-Call.field-0 c.call_ended.new.state) (sym is)
    (ends (answered m c.args.place) c.args.jump c.in_ok-call_ended-in-Call.field-0 (record { operands = c.args.operands.now.used; locals = locals; state = c.args.state.now }) c.call_ended.new.state (c.in_ok-call_ended-in-Call.ensures locals))
