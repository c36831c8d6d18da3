use Rattle.std.proofs.Common.{◌≡◌, List, Some, refl, rules, subst}
use Rattle.typed_trees.specs.declared.node.Node.{Node, out-Node}
use Rattle.typed_trees.specs.Trees.{head_of}
use Rattle.rewriting_kit.specs.Rewrites.{Stays, held, rewritten}
use Rattle.rewriting_kit.proofs.Unchanged.{without_bodies, with_bodies_kept}
use Rattle.rewriting_kit.proofs.kept.+staying.Goals as goal

pub node_stays-returns-in_default : goal.node_stays-returns-in_default
node_stays-returns-in_default g t c =
    λ yes. without_bodies (g.R.Rewriting.entry c.args.rewriting.now) (g.R.Rewriting.layer c.args.rewriting.now) c.args.node.now (search rules) (search rules)

pub node_stays-returns : goal.node_stays-returns
node_stays-returns g t c =
    let entry = g.R.Rewriting.entry c.args.rewriting.now in
    let layer = g.R.Rewriting.layer c.args.rewriting.now in
    let n = c.args.node.now in
    let b = c.get-bodies.result.now in
    let same : List Node → Type 0 = λ l. (x : List g.row.E.Denot) → rewritten entry layer l x ≡ l in
    let stays : Stays layer (head_of n) = c.if-not-stays.ensures refl in
    let has : (out-Node n).bodies ≡ Some b = search rules in
    let kept : held b.first b.second ≡ Some b = c.if-not-have_nodes.ensures refl in
    λ yes. with_bodies_kept entry layer n stays b has kept (subst same c.as_slice.ensures (c.if-not-all_stay.ensures refl)) (subst same c.as_slice-2.ensures (c.all_stay-2.ensures yes))
