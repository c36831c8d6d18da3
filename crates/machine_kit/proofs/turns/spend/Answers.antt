use Rattle.std.proofs.Common.{◌≡◌, sym, subst, arith}
use Rattle.machine_kit.specs.Machines.{place_of}
use Rattle.machine_kit.specs.Turning.{Spent}
use Rattle.machine_kit.proofs.Spending.{spent_nothing, spent_on, came_over, came_halted}
use Rattle.machine_kit.proofs.turns.spend.Goals as goal

pub loop-used-init : goal.loop-used-init
loop-used-init g c =
    let v = g.P.Version.acts c.args.version.now in
    (spent_nothing v c.args.start (place_of c.args.machine.now) c.args.state.now c.args.turns, c.requires, omega arith)

pub returns-in-Some : goal.returns-in-Some
returns-in-Some g c =
    let v = g.P.Version.acts c.args.version.now in
    came_over v c.args.start c.loop-used.flow (place_of c.args.machine.now) (place_of c.loop-used.machine) c.args.state.now c.loop-used.state c.args.turns c.loop-used.used c.in-Some.jump c.loop-used.invariant.0 c.loop-used.invariant.1 (sym c.in-Some.ensures) c.loop-used.invariant.2

pub loop-used-preserved : goal.loop-used-preserved
loop-used-preserved g c =
    let v = g.P.Version.acts c.args.version.now in
    let standing = c.in_ok-standing.standing in (
      spent_on v c.args.start c.loop-used.flow standing.flow (place_of c.args.machine.now) (place_of c.loop-used.machine) (place_of c.next_turn.new.machine) c.args.state.now c.loop-used.state c.next_turn.new.state c.args.turns c.loop-used.used standing.used
          c.loop-used.invariant.0 c.in_ok-standing.ensures.spent.2,
      c.in_ok-standing.ensures.rests,
      omega (arith, c.in_ok-standing.ensures.spent.1, c.loop-used.invariant.2),
    )

pub returns-in-Some-over : goal.returns-in-Some-over
returns-in-Some-over g c =
    let v = g.P.Version.acts c.args.version.now in
    let all : c.loop-used.used ≡ c.args.turns = omega (arith, c.loop-used.invariant.2) in
    came_over v c.args.start c.loop-used.flow (place_of c.args.machine.now) (place_of c.loop-used.machine) c.args.state.now c.loop-used.state c.args.turns c.args.turns c.in-Some-over.jump
    (subst (λ u. Spent v c.args.start (place_of c.args.machine.now) c.args.state.now c.args.turns u c.loop-used.flow (place_of c.loop-used.machine) c.loop-used.state) all c.loop-used.invariant.0) c.loop-used.invariant.1 (sym c.in-Some-over.ensures) (omega arith)

pub returns-in-None : goal.returns-in-None
returns-in-None g c =
    let v = g.P.Version.acts c.args.version.now in
    let all : c.loop-used.used ≡ c.args.turns = omega (arith, c.loop-used.invariant.2) in
    came_halted v c.args.start c.loop-used.flow (place_of c.args.machine.now) (place_of c.loop-used.machine) c.args.state.now c.loop-used.state c.args.turns
    (subst (λ u. Spent v c.args.start (place_of c.args.machine.now) c.args.state.now c.args.turns u c.loop-used.flow (place_of c.loop-used.machine) c.loop-used.state) all c.loop-used.invariant.0) c.loop-used.invariant.1 (sym c.in-None.ensures)
