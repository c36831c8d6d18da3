use Rattle.std.proofs.Common.{◌≡◌, ◌-◌, ◌≤◌, [], reverse}
use Rattle.machine_kit.specs.declared.frame.Flow.TheVariants as flows
use Rattle.machine_kit.specs.Turning.{Spent}
use Rattle.machine_kit.proofs.Stretching.{standing}
use Rattle.machine_kit.proofs.plain.glide.Given as goal

abbrev pub invariant-loop-ran : goal.invariant-loop-ran
invariant-loop-ran g l =
    let frames = reverse l.frames.items in
    (l.used ≤ l.turns)
    × Spent (g.P.Version.acts l.version) flows.Run (standing l.initial.code l.initial.operands l.initial.locals frames) l.initial.state l.turns l.used flows.Run (standing l.code l.operands l.locals frames) l.state
    × (l.used ≡ 0 → (standing l.code l.operands l.locals [] ≡ standing l.initial.code l.initial.operands l.initial.locals []) × (l.state ≡ l.initial.state))

abbrev pub decreases-loop-ran : goal.decreases-loop-ran
decreases-loop-ran g l = l.turns - l.used
