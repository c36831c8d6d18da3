use Rattle.std.proofs.Common.{◌≡◌, List, take}
use Rattle.rewriting_kit.specs.Rewrites.{rewritten}
use Rattle.rewriting_kit.proofs.kept.+staying.Given as goal

-- the nodes so far are as they were
abbrev pub invariant-all_stay-loop-node : goal.invariant-all_stay-loop-node
invariant-all_stay-loop-node g l =
    (x : List g.row.E.Denot) → rewritten (g.R.Rewriting.entry l.rewriting) (g.R.Rewriting.layer l.rewriting) (take l.node-index l.nodes) x ≡ take l.node-index l.nodes
