use Rattle.std.proofs.Common.{◌≡◌, take}
use Rattle.typed_trees.proofs.copies.+copies.Given as goal

-- the nodes copied so far
abbrev pub invariant-copy_of-loop-node : goal.invariant-copy_of-loop-node
invariant-copy_of-loop-node l = l.copy ≡ take l.node-index l.nodes
