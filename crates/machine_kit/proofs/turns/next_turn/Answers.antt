use Rattle.std.proofs.Common.{arith}
use Rattle.machine_kit.specs.Machines.{place_of}
use Rattle.machine_kit.proofs.Spending.{spent_first}
use Rattle.machine_kit.proofs.turns.next_turn.Goals as goal

pub returns-clause-spent : goal.returns-clause-spent
returns-clause-spent g c =
    let v = g.P.Version.acts c.args.version.now in
    let standing = c.in_ok-standing.standing in (
      omega arith,
      omega (arith, c.in_ok-standing.ensures.spent.0),
      spent_first v c.args.flow c.in_ok-next.next standing.flow (place_of c.args.machine.now) (place_of c.take_turn.new.machine) (place_of c.go_on.new.machine) c.args.state.now c.args.state.now c.go_on.new.state c.args.turns standing.used
          c.requires.some (c.in_ok-next.ensures c.args.state.now) c.in_ok-standing.ensures.spent.1,
    )
