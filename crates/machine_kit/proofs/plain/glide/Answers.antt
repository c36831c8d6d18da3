use Rattle.std.proofs.Common.{◌<◌, reverse, refl, arith}
use Rattle.std.proofs.lemmas.Bool.{ltb-true}
use Rattle.machine_kit.specs.declared.frame.Flow.TheVariants as flows
use Rattle.machine_kit.specs.Machines.{flow_after}
use Rattle.machine_kit.proofs.Stretching.{standing, stretch_from}
use Rattle.machine_kit.proofs.Spending.{spent_nothing, spent_more, spent_then, passes, ran_to}
use Rattle.machine_kit.proofs.plain.glide.Goals as goal

pub loop-ran-init : goal.loop-ran-init
loop-ran-init g c = (
  omega arith,
  spent_nothing (g.P.Version.acts c.args.version.now) flows.Run (standing c.args.start.now c.args.operands.now c.args.locals.now (reverse c.args.frames.now.items)) c.args.state.now c.args.turns,
  λ none. (refl, refl),
)

pub returns-in_default-clause-spent : goal.returns-in_default-clause-spent
returns-in_default-clause-spent g c =
    let v = g.P.Version.acts c.args.version.now in
    let frames = reverse c.args.frames.now.items in
    let start = standing c.args.start.now c.args.operands.now c.args.locals.now frames in
    let a = standing c.loop-ran.code.now c.loop-ran.operands c.loop-ran.locals frames in
    let b = standing c.in_ok-ran.ran.code.now c.run_plain.new.operands c.run_plain.new.locals frames in
    let j = c.in_ok-ran.ran.jump in (
      c.loop-ran.invariant.0,
      spent_then v flows.Run flows.Run (flow_after j) start a b c.args.state.now c.loop-ran.state c.run_plain.new.state c.args.turns c.loop-ran.used c.loop-ran.invariant.1
          (ran_to v a b c.loop-ran.state c.run_plain.new.state j (c.in_ok-ran.ensures frames)),
    )

pub returns-in_default-clause-stretch : goal.returns-in_default-clause-stretch
returns-in_default-clause-stretch g c none frames =
    let v = g.P.Version.acts c.args.version.now in
    let same = c.loop-ran.invariant.2 none in
    stretch_from v c.args.start.now c.loop-ran.code.now c.args.operands.now c.loop-ran.operands c.args.locals.now c.loop-ran.locals frames c.args.state.now c.loop-ran.state c.in_ok-ran.ran.jump (standing c.in_ok-ran.ran.code.now c.run_plain.new.operands c.run_plain.new.locals frames) c.run_plain.new.state same.0 same.1 (c.in_ok-ran.ensures frames)

pub loop-ran-preserved : goal.loop-ran-preserved
loop-ran-preserved g c =
    let v = g.P.Version.acts c.args.version.now in
    let frames = reverse c.args.frames.now.items in
    let start = standing c.args.start.now c.args.operands.now c.args.locals.now frames in
    let a = standing c.loop-ran.code.now c.loop-ran.operands c.loop-ran.locals frames in
    let b = standing c.in_ok-ran.ran.code.now c.run_plain.new.operands c.run_plain.new.locals frames in
    let more : c.loop-ran.used < c.args.turns = ltb-true c.loop-ran.used c.args.turns c.in-Some.ensures.0 in (
      omega arith,
      spent_more v flows.Run flows.Run flows.Run start a (standing c.in-Some.pass.code.now c.keep.new.self c.run_plain.new.locals frames) c.args.state.now c.loop-ran.state c.run_plain.new.state c.args.turns c.loop-ran.used more c.loop-ran.invariant.1
          (passes v a b c.loop-ran.state c.run_plain.new.state c.in_ok-ran.ran.jump c.keep.new.self c.in-Some.pass.takes c.in-Some.pass.code.now (c.in_ok-ran.ensures frames) c.in-Some.ensures.1 c.in-Some.ensures.2 c.keep.ensures),
      λ none. let no : ⊥ = omega arith in absurd no,
    )
