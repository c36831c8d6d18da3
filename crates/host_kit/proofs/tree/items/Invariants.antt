use Rattle.host_kit.proofs.InFront.{SoFar}
use Rattle.host_kit.proofs.tree.items.Given as goal

abbrev pub invariant-loop-place : goal.invariant-loop-place
invariant-loop-place g l = SoFar g.T.FromTree.form l.trees l.items l.place
