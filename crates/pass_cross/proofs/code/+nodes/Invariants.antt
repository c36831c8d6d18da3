use Rattle.std.proofs.Common.{◌≡◌, ◌++◌, drop, map}
use Rattle.pass_cross.specs.Code.{crossed_node}
use Rattle.pass_cross.proofs.code.+nodes.Given as goal

-- what is written so far, with what is still to come, is all
abbrev pub invariant-cross_nodes-loop-node : goal.invariant-cross_nodes-loop-node
invariant-cross_nodes-loop-node l = l.out ++ map crossed_node (drop l.node-index l.nodes) ≡ map crossed_node l.nodes
