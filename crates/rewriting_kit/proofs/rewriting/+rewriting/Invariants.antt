use Rattle.std.proofs.Common.{◌≡◌, ◌≤◌, ◌++◌, List, length}
use denote.Param.Weighed.{most}
use Rattle.typed_trees.specs.declared.node.Node.{Node, size-Node}
use Rattle.rewriting_kit.specs.Rewrites.{rewritten}
use Rattle.rewriting_kit.proofs.rewriting.+rewriting.Given as goal

-- the nodes so far, and behind them what becomes of the others; and the same is known of the bodies around
abbrev pub invariant-rewrite_all-loop-node : goal.invariant-rewrite_all-loop-node
invariant-rewrite_all-loop-node g l =
    let all : List Node → List Node = λ nodes. rewritten (g.R.Rewriting.entry l.rewriting) (g.R.Rewriting.layer l.rewriting) nodes l.initial.around.items in
    (all l.initial.rest ≡ l.new ++ all l.rest) × (l.around.items ≡ l.initial.around.items) × (most size-Node l.rest ≤ most size-Node l.initial.rest)

abbrev pub decreases-rewrite_all-loop-node : goal.decreases-rewrite_all-loop-node
decreases-rewrite_all-loop-node g l = length l.rest
