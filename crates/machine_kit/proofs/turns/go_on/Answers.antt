use Rattle.std.proofs.Common.{◌≡◌, ◌≤◌, sym, subst, arith}
use Rattle.machine_kit.specs.declared.frame.Flow.TheVariants as flows
use Rattle.machine_kit.specs.Machines.{Reaches, place_of, flow_after}
use Rattle.machine_kit.specs.Turning.{Spent}
use Rattle.machine_kit.proofs.Stretching.{standing}
use Rattle.machine_kit.proofs.Spending.{spent_none, spent_then}
use Rattle.machine_kit.proofs.turns.go_on.Goals as goal

pub returns-in_ok-flow-in-Run-clause-spent : goal.returns-in_ok-flow-in-Run-clause-spent
returns-in_ok-flow-in-Run-clause-spent g c =
    let v = g.P.Version.acts c.args.version.now in
    let a = place_of c.args.machine.now in
    let glided = c.in_ok-glided-in-Run.glided in
    let middle = standing glided.code.now c.glide.new.operands c.glide.new.locals a.frames in
    let end = place_of c.advance.new.machine in (
      c.in_ok-glided-in-Run.ensures.spent.0,
      subst (λ flow. Spent v flow a c.args.state.now c.args.turns glided.used c.in_ok-flow-in-Run.flow end c.advance.new.state) (sym c.in-Run.is)
          (spent_then v flows.Run (flow_after glided.jump) c.in_ok-flow-in-Run.flow a middle end c.args.state.now c.glide.new.state c.advance.new.state c.args.turns glided.used
          c.in_ok-glided-in-Run.ensures.spent.1
          (subst (λ flow. Reaches v flow middle c.glide.new.state c.in_ok-flow-in-Run.flow end c.advance.new.state) c.after.ensures c.in_ok-flow-in-Run.ensures.same)),
    )

pub returns-in_ok-flow-in_default : goal.returns-in_ok-flow-in_default
returns-in_ok-flow-in_default g c =
    let v = g.P.Version.acts c.args.version.now in
    record {
      spent = (omega arith, spent_none v c.args.flow c.in_ok-flow-in_default.flow (place_of c.args.machine.now) (place_of c.advance-in_default.new.machine) c.args.state.now c.advance-in_default.new.state c.args.turns c.in_ok-flow-in_default.ensures.same);
      rests = c.in_ok-flow-in_default.ensures.rests;
    }
