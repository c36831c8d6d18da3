use Rattle.std.proofs.Common.{map, drop}
use Rattle.machine_kit.specs.Calls.{TasksSpent}
use Rattle.machine_kit.proofs.tasks.run_tasks.Given as goal

abbrev pub invariant-loop-item : goal.invariant-loop-item
invariant-loop-item g l =
    let ts = map (g.H.Host.task l.host) l.items in
    TasksSpent (g.P.Version.acts l.version) ts l.initial.state l.turns l.used (drop l.item-index ts) l.state
