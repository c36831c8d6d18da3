use Rattle.machine_kit.proofs.Stretching.{slides_nowhere, stops_before, stops_at_end, last_jumps, one_more, standing}
use Rattle.machine_kit.proofs.plain.run_plain.Goals as goal

pub loop-instr-init : goal.loop-instr-init
loop-instr-init g c frames = slides_nowhere (g.P.Version.acts c.args.version.now) (standing c.args.start.now c.args.operands.now c.args.locals.now frames) c.args.state.now

pub returns : goal.returns
returns g c frames =
    let v = g.P.Version.acts c.args.version.now in
    (c.loop-instr.invariant frames, stops_at_end v c.loop-instr.code.now c.in_default.ensures.cases)
