use Rattle.machine_kit.specs.Machines.{place_of}
use Rattle.machine_kit.proofs.Spending.{came_later}
use Rattle.machine_kit.proofs.turns.run.Goals as goal

pub returns : goal.returns
returns g c =
    let v = g.P.Version.acts c.args.version.now in
    came_later v c.args.start c.in_ok-flow.flow (place_of c.args.machine.now) (place_of c.advance.new.machine) (place_of c.spend.new.machine) c.args.state.now c.advance.new.state c.spend.new.state c.args.turns c.in_ok-outcome.outcome
    c.in_ok-flow.ensures.same c.in_ok-outcome.ensures
