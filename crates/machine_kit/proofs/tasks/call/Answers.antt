use Rattle.std.proofs.Common.{ap, reverse}
use Rattle.machine_kit.specs.Stacks.{Stack}
use Rattle.machine_kit.specs.Machines.{Place, place_of}
use Rattle.machine_kit.proofs.Calling.{came_call}
use Rattle.machine_kit.proofs.tasks.call.Goals as goal

pub returns : goal.returns
returns g c =
    let v = g.P.Version.acts c.args.version.now in
    let a : Place _ _ = record { code = c.no_code.result.now; operands = c.args.operands; locals = c.new.result; frames = reverse c.new-2.result.items } in
    came_call v c.args.func a (place_of c.run.new.machine) c.args.state.now c.run.new.state c.args.turns c.in_ok-outcome.outcome (ap reverse c.new-2.ensures.items) (ap (λ (l : Stack _). l.used) c.new.ensures) c.in_ok-outcome.ensures
