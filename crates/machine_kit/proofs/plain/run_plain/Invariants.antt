use Rattle.std.proofs.Common.{List, length}
use Rattle.machine_kit.specs.declared.frame.Frame.{Frame}
use Rattle.machine_kit.specs.Stretches.{Slides}
use Rattle.machine_kit.proofs.Stretching.{standing}
use Rattle.machine_kit.proofs.plain.run_plain.Given as goal

abbrev pub invariant-loop-instr : goal.invariant-loop-instr
invariant-loop-instr g l =
    (frames : List (Frame _)) → Slides (g.P.Version.acts l.version) (standing l.initial.code l.initial.operands l.initial.locals frames) l.initial.state (standing l.code l.operands l.locals frames) l.state

abbrev pub decreases-loop-instr : goal.decreases-loop-instr
decreases-loop-instr g l = length l.code
