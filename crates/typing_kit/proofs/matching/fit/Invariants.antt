use Rattle.std.proofs.Common.{◌≡◌, drop, reverse}
use Rattle.typing_kit.specs.Stack.{fit}
use Rattle.typing_kit.proofs.matching.fit.Given as goal

abbrev pub invariant-loop-k : goal.invariant-loop-k
invariant-loop-k g l = fit g.V.ValueTypes.sub l.dead (drop l.k (reverse l.operands)) (drop l.k (reverse l.wanted)) ≡ fit g.V.ValueTypes.sub l.dead (reverse l.operands) (reverse l.wanted)
