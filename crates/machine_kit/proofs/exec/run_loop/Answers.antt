use Rattle.std.proofs.Common.{◌∷◌, ◌∙◌, ap, refl}
use Rattle.machine_kit.specs.declared.frame.Frame.TheVariants as frames
use Rattle.machine_kit.specs.declared.frame.Flow.TheVariants as flows
use Rattle.machine_kit.specs.Machines.{place_of}
use Rattle.machine_kit.proofs.Moves.{moves_to, before, same_place, loop_moves}
use Rattle.machine_kit.proofs.exec.run_loop.Goals as goal

pub returns : goal.returns
returns g c s =
    let v = g.P.Version.acts c.args.version.now in
    let a = place_of c.args.machine.now in
    moves_to v flows.Run flows.Again (before v (g.met.P.Version.laws c.args.version.now) a c.args.instr.now c.args.rest) _ _ s s
    (same_place _ _ _ _ _ _ _ _ refl c.set_aside-aside.ensures.stack refl
    (c.in_ok-open.ensures ∙ ap (λ n. frames.Loop c.args.takes c.args.gives n c.args.body c.args.rest ∷ a.frames) c.set_aside-aside.ensures.aside))
    (loop_moves v (g.met.P.Version.laws c.args.version.now) a c.args.instr.now c.args.rest c.args.body c.args.takes c.args.gives s c.requires)
