use Rattle.std.proofs.Common.{◌≡◌, ◌++◌, [], ◌∷◌, OnOk, rules, arith, subst, ap, ◌∙◌, take, length}
use Rattle.std.proofs.Math.Seq.{take-append_seam}
use denote.Param.Weighed.{most, w_this}
use Rattle.typed_trees.specs.declared.node.Node.{Node, size-Node}
use Rattle.typed_trees.specs.Trees.{head_of, first_of, second_of}
use Rattle.rewriting_kit.specs.Rewrites.{rewritten}
use Rattle.rewriting_kit.proofs.Depths.{first_no_deeper}
use Rattle.rewriting_kit.proofs.Folding.{node_rewritten}
use Rattle.rewriting_kit.proofs.rewriting.+rewriting.Goals as goal

pub rewrite_all-rewrite_node-requires : goal.rewrite_all-rewrite_node-requires
rewrite_all-rewrite_node-requires g t c κs within =
    let first = first_no_deeper size-Node c.in-Some.node c.next.new.self c.loop-node.rest c.in-Some.ensures in
    let all : most size-Node c.in_ok-rest.rest ≡ most (w_this.weight Node size-Node) c.args.nodes = ap (most size-Node) {y = c.args.nodes} c.in_ok-rest.ensures in
    (omega (arith, first, all, c.loop-node.invariant.2), within)

pub rewrite_node-returns-clause-nodes : goal.rewrite_node-returns-clause-nodes
rewrite_node-returns-clause-nodes g t c =
    let entry = g.R.Rewriting.entry c.args.rewriting.now in
    let layer = g.R.Rewriting.layer c.args.rewriting.now in
    let n = c.args.node in
    let x = c.args.around.now.items in
    let inside = c.push-2.new.self.items in
    let inside' = c.rewrite_all.new.around.items in
    let inside2 = c.rewrite_all-2.new.around.items in
    let outside = c.as_slice-2.result.now in
    let pushed : inside ≡ x ++ entry (head_of n) ∷ [] = search rules in
    let first : c.in_ok-first.first ≡ rewritten entry layer (first_of n) inside = search rules in
    let stays : inside' ≡ inside = search rules in
    let second : c.in_ok-second.second ≡ rewritten entry layer (second_of n) inside' = search rules in
    let stays2 : inside2 ≡ inside' = search rules in
    let cut : outside ≡ take (length x) inside2 = search rules in
    let popped : outside ≡ x = cut ∙ ap (take (length x)) (stays2 ∙ stays ∙ pushed) ∙ take-append_seam x (entry (head_of n) ∷ []) in
    subst (λ l. OnOk c.layer-2.result (c.layer-2.new.out ≡ c.args.out.now ++ l))
    (node_rewritten entry layer n x inside inside' outside c.in_ok-first.first c.in_ok-second.second pushed first stays second popped) c.layer-2.ensures
