use Rattle.std.proofs.Common.{◌∷◌, ◌∙◌, ap, refl, length, drop}
use Rattle.machine_kit.specs.declared.frame.Frame.TheVariants as frames
use Rattle.machine_kit.specs.declared.frame.Flow.TheVariants as flows
use Rattle.machine_kit.specs.Stacks.{Stack}
use Rattle.machine_kit.specs.Machines.{place_of}
use Rattle.machine_kit.proofs.Moves.{moves_to, before, same_place, put_aside, picked_moves}
use Rattle.machine_kit.proofs.exec.run_picked_call.Goals as goal

pub returns : goal.returns
returns g c =
    let v = g.P.Version.acts c.args.version.now in
    let a = place_of c.args.machine.now in
    let s = c.args.state.now in
    moves_to v flows.Run (flows.Enter c.in-Some.func) (before v (g.met.P.Version.laws c.args.version.now) a c.args.instr.now c.args.rest) _ _ s s
    (same_place _ _ _ _ _ _ _ _ refl
    (c.set_aside-aside.ensures.stack ∙ ap (put_aside c.args.takes) c.drop_top.ensures) c.set_aside-own.ensures.stack
    (c.in_ok-open.ensures
    ∙ ap (λ n. frames.Call c.set_aside-own.result n c.args.rest ∷ a.frames) (c.set_aside-aside.ensures.aside ∙ ap (λ (o : Stack _). length (drop c.args.takes o.used)) c.drop_top.ensures)
    ∙ ap (λ n. frames.Call n (length (drop c.args.takes (drop 1 a.operands.used))) c.args.rest ∷ a.frames) c.set_aside-own.ensures.aside))
    (picked_moves v (g.met.P.Version.laws c.args.version.now) a c.args.instr.now c.args.rest c.args.takes c.in-Some.func s c.requires c.in-Some.ensures)
