use Rattle.std.proofs.Common.{sym, subst}
use Rattle.machine_kit.specs.Acts.{ended_by}
use Rattle.machine_kit.specs.Calls.{EndedAs}
use Rattle.meaning_new.specs.Runs.{started}
use Rattle.run_new.specs.Tasks.{task_of}
use Rattle.run_new.proofs.Ending.{ends}
use Rattle.run_new.proofs.tasks.ProgramHostSlotState.end.Goals as goal

pub returns-in_ok-start_ended-in-Start : goal.returns-in_ok-start_ended-in-Start
returns-in_ok-start_ended-in-Start c =
    subst (λ t. EndedAs (task_of c.args.self.now t) (ended_by c.args.jump (record { operands = c.args.operands.now.used; locals = c.args.locals.now.used; state = c.args.state.now })) c.in_ok-start_ended-in-Start.field-0 c.start_ended.new.self) (sym c.in-Start.is)
    (ends started c.args.jump c.in_ok-start_ended-in-Start.field-0 (record { operands = c.args.operands.now.used; locals = c.args.locals.now.used; state = c.args.state.now }) c.start_ended.new.self (c.in_ok-start_ended-in-Start.ensures c.args.operands.now.used c.args.locals.now.used))
