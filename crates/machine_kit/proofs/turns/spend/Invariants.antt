use Rattle.std.proofs.Common.{◌≡◌, ◌≤◌, ◌-◌, false}
use Rattle.machine_kit.specs.Machines.{place_of, moving}
use Rattle.machine_kit.specs.Turning.{Spent}
use Rattle.machine_kit.proofs.turns.spend.Given as goal

abbrev pub invariant-loop-used : goal.invariant-loop-used
invariant-loop-used g l =
    Spent (g.P.Version.acts l.version) l.initial.flow (place_of l.initial.machine) l.initial.state l.turns l.used l.flow (place_of l.machine) l.state
    × (moving l.flow (place_of l.machine).frames ≡ false)
    × (l.used ≤ l.turns)

abbrev pub decreases-loop-used : goal.decreases-loop-used
decreases-loop-used g l = l.turns - l.used
