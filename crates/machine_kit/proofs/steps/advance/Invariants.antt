use Rattle.machine_kit.specs.Machines.{Reaches, place_of, size_of}
use Rattle.machine_kit.proofs.steps.advance.Given as goal

abbrev pub invariant-loop-flow : goal.invariant-loop-flow
invariant-loop-flow g l =
    Reaches (g.P.Version.acts l.version) l.initial.flow (place_of l.initial.machine) l.initial.state l.flow (place_of l.machine) l.state

abbrev pub decreases-loop-flow : goal.decreases-loop-flow
decreases-loop-flow g l = size_of (g.P.Version.acts l.version) l.flow (place_of l.machine)
