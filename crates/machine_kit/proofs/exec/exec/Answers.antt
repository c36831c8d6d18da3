use Rattle.std.proofs.Common.{arith}
use Rattle.machine_kit.specs.Machines.{place_of}
use Rattle.machine_kit.proofs.Stretching.{standing, into_form, into_jump, stops_there}
use Rattle.machine_kit.proofs.exec.exec.Goals as goal

pub open_next-requires : goal.open_next-requires
open_next-requires g c =
    let v = g.P.Version.acts c.args.version.now in
    let a = place_of c.args.machine.now in
    stops_there v a (standing c.in_ok-ran.ran.code.now c.glide.new.operands c.glide.new.locals a.frames) c.args.state.now c.glide.new.state c.in_ok-ran.ran.jump c.in-None.is (c.in_ok-ran.ensures.stretch (omega (arith, c.in_ok-ran.ensures.spent.0)) a.frames)

pub returns-in_ok-flow-in-None : goal.returns-in_ok-flow-in-None
returns-in_ok-flow-in-None g c =
    let v = g.P.Version.acts c.args.version.now in
    let a = place_of c.args.machine.now in
    into_form v a (standing c.in_ok-ran.ran.code.now c.glide.new.operands c.glide.new.locals a.frames) (place_of c.open_next.new.machine) c.args.state.now c.glide.new.state c.open_next.new.state c.in_ok-ran.ran.jump c.in_ok-flow-in-None.flow
    c.in-None.is (c.in_ok-ran.ensures.stretch (omega (arith, c.in_ok-ran.ensures.spent.0)) a.frames) c.in_ok-flow-in-None.ensures

pub returns-in_default : goal.returns-in_default
returns-in_default g c =
    let v = g.P.Version.acts c.args.version.now in
    let a = place_of c.args.machine.now in
    into_jump v a (standing c.in_ok-ran.ran.code.now c.glide.new.operands c.glide.new.locals a.frames) c.args.state.now c.glide.new.state c.in_ok-ran.ran.jump c.in_default.not-None (c.in_ok-ran.ensures.stretch (omega (arith, c.in_ok-ran.ensures.spent.0)) a.frames)
