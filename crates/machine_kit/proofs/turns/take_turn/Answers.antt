use Rattle.std.proofs.Common.{refl}
use Rattle.machine_kit.specs.declared.frame.Flow.TheVariants as flows
use Rattle.machine_kit.specs.Acts.{zeros_of}
use Rattle.machine_kit.specs.Machines.{place_of}
use Rattle.machine_kit.specs.Turning.{loop_code, passed_flow, passed_place, entered_place}
use Rattle.machine_kit.proofs.Spending.{again_turned, open_turned, turned_at}
use Rattle.machine_kit.proofs.turns.take_turn.Goals as goal

pub returns-in-Again : goal.returns-in-Again
returns-in-Again g c s =
    let v = g.P.Version.acts c.args.version.now in
    let a = place_of c.args.machine.now in
    turned_at v c.args.flow flows.Again (passed_flow (loop_code a.frames)) c.pass.result a (passed_place (loop_code a.frames) a) (place_of c.pass.new.machine) s s c.in-Again.is c.pass.ensures.flow c.pass.ensures.place
    (again_turned v a s)

pub returns-in_ok-enter_body-in-Open : goal.returns-in_ok-enter_body-in-Open
returns-in_ok-enter_body-in-Open g c s =
    let v = g.P.Version.acts c.args.version.now in
    let a = place_of c.args.machine.now in
    turned_at v c.args.flow (flows.Open c.in-Open.func c.in-Open.body) flows.Run flows.Run a (entered_place (zeros_of (v.callee c.in-Open.func)) c.in-Open.body a) (place_of c.enter_body.new.machine) s s c.in-Open.is refl c.in_ok-enter_body-in-Open.ensures
    (open_turned v a s c.in-Open.func c.in-Open.body)
