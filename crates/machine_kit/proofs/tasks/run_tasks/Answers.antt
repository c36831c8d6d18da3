use Rattle.std.proofs.Common.{◌+◌, ◌∙◌, None, map, drop, sym, subst, arith}
use Rattle.machine_kit.specs.declared.turns.Outcome.TheVariants as outcomes
use Rattle.machine_kit.specs.Calls.{TasksSpent, TasksCome}
use Rattle.machine_kit.proofs.Calling.{next_task, all_tasks, tasks_begin, tasks_stop, tasks_go, tasks_end, tasks_leave}
use Rattle.machine_kit.proofs.tasks.run_tasks.Goals as goal

pub loop-item-init : goal.loop-item-init
loop-item-init g c =
    let v = g.P.Version.acts c.args.version.now in
    tasks_begin v (map (g.H.Host.task c.args.host.now) c.args.items.now) c.args.state.now c.args.turns

pub loop-item-preserved : goal.loop-item-preserved
loop-item-preserved g c =
    let v = g.P.Version.acts c.args.version.now in
    let f = g.H.Host.task c.args.host.now in
    let ts = map f c.args.items.now in
    let i = c.loop-item.item-index in
    let e = next_task f c.args.items.now i c.item-item.result (omega arith) c.item-item.is in
    tasks_go v ts (f c.item-item.result) (drop (i + 1) ts) c.args.state.now c.loop-item.state c.run_task.new.state c.args.turns c.loop-item.used c.in-Some.more c.in_ok-outcome.outcome (sym c.in-Some.ensures)
    (subst (λ l. TasksSpent v ts c.args.state.now c.args.turns c.loop-item.used l c.loop-item.state) e c.loop-item.invariant) c.in_ok-outcome.ensures

pub returns-in_default-clause-comes : goal.returns-in_default-clause-comes
returns-in_default-clause-comes g c =
    let v = g.P.Version.acts c.args.version.now in
    let f = g.H.Host.task c.args.host.now in
    let ts = map f c.args.items.now in
    let i = c.loop-item.item-index in
    let e = next_task f c.args.items.now i c.item-item.result (omega arith) c.item-item.is in
    subst (λ o. TasksCome v ts c.args.state.now c.args.turns o c.run_task.new.state) (sym c.later.ensures)
    (tasks_stop v ts (f c.item-item.result) (drop (i + 1) ts) c.args.state.now c.loop-item.state c.run_task.new.state c.args.turns c.loop-item.used c.in_ok-outcome.outcome (sym c.goes_on.ensures ∙ c.in_default.is)
    (subst (λ l. TasksSpent v ts c.args.state.now c.args.turns c.loop-item.used l c.loop-item.state) e c.loop-item.invariant) c.in_ok-outcome.ensures)

pub returns-in_default-clause-leaves : goal.returns-in_default-clause-leaves
returns-in_default-clause-leaves g c =
    let v = g.P.Version.acts c.args.version.now in
    tasks_leave v (map (g.H.Host.task c.args.host.now) c.args.items.now) c.args.state.now c.run_task.new.state c.args.turns c.later.result (returns-in_default-clause-comes g c)

pub returns-clause-comes : goal.returns-clause-comes
returns-clause-comes g c =
    let v = g.P.Version.acts c.args.version.now in
    let f = g.H.Host.task c.args.host.now in
    let ts = map f c.args.items.now in
    tasks_end v ts c.args.state.now c.loop-item.state c.args.turns c.loop-item.used
    (subst (λ l. TasksSpent v ts c.args.state.now c.args.turns c.loop-item.used l c.loop-item.state) (all_tasks f c.args.items.now c.loop-item.item-index (omega arith)) c.loop-item.invariant)

pub returns-clause-leaves : goal.returns-clause-leaves
returns-clause-leaves g c =
    let v = g.P.Version.acts c.args.version.now in
    tasks_leave v (map (g.H.Host.task c.args.host.now) c.args.items.now) c.args.state.now c.loop-item.state c.args.turns (outcomes.Done c.loop-item.used None) (returns-clause-comes g c)
