use Rattle.std.proofs.Common.{subst}
use Rattle.machine_kit.specs.Calls.{BegunAs}
use Rattle.machine_kit.proofs.Calling.{begun_changed, begun_ended}
use Rattle.machine_kit.proofs.tasks.run_task.Goals as goal

pub returns-in-Changed : goal.returns-in-Changed
returns-in-Changed g c =
    let v = g.P.Version.acts c.args.version.now in
    let t = g.H.Host.task c.args.host.now c.args.item.now in
    begun_changed v t c.args.state.now c.begin.new.state c.args.turns c.in-Changed.over
    (subst (λ b. BegunAs t c.args.state.now b c.begin.new.state) c.in-Changed.is c.in_ok-over.ensures)

pub returns-in_ok-outcome-in-Call : goal.returns-in_ok-outcome-in-Call
returns-in_ok-outcome-in-Call g c =
    let v = g.P.Version.acts c.args.version.now in
    let t = g.H.Host.task c.args.host.now c.args.item.now in
    let r = c.in_ok-called-in-Call.called in
    begun_ended v t c.args.state.now c.begin.new.state c.call.new.state c.args.turns c.in-Call.func c.in-Call.operands r.operands r.locals r.outcome c.in_ok-outcome-in-Call.outcome c.end_task.new.state
    (subst (λ b. BegunAs t c.args.state.now b c.begin.new.state) c.in-Call.is c.in_ok-over.ensures)
    c.in_ok-called-in-Call.ensures c.in_ok-outcome-in-Call.ensures
