use Rattle.std.proofs.Common.{rules, arith, ◌≡◌, false, map, sym, ap, ◌∙◌}
use Rattle.std.proofs.lemmas.Grind.{common_steps}
use Rattle.wasm_ast.specs.declared.module.code.Instr.{out-Instr}
use Rattle.core1_ast.specs.declared.module.code.Instr1.{roll-Instr1}
use Rattle.typed_trees.specs.Trees.{head_of, first_of, second_of, erased}
use Rattle.crossing.specs.Code.{cross_code}
use Rattle.pass_cross.specs.Code.{cross_leaf, crossed_node, holds}
use Rattle.pass_cross.proofs.Arms.{block_arm, loop_arm, if_arm, table_arm, leaf_arm}
use Rattle.pass_cross.proofs.Writing.{nodes_crossed}
use Rattle.pass_cross.proofs.code.+nodes.Goals as goal
use Rattle.pass_cross.proofs.code.+nodes.Goals.{cross_node-in-Block+in_ok-cross_nodes-in-Block, cross_node-in-Loop+in_ok-cross_nodes-in-Loop, cross_node-in-If+in_ok-first-in-If+in_ok-second-in-If, cross_node-in-BrTable+in_ok-from_slice-in-BrTable, cross_node-in_default+in_ok-cross_leaf-in_default}

pub cross_node-returns : goal.cross_node-returns
cross_node-returns t c =
    let n = c.args.node.now in
    let first = cross_code (erased (first_of n)) in
    let second = cross_code (erased (second_of n)) in
    elim c.match-node.branch [
      | cross_node-in-Block+in_ok-cross_nodes-in-Block w ↦ block_arm (head_of n) first second w.in-Block.ty w.in-Block.field-1 w.cross_block.result w.in_ok-cross_nodes-in-Block.field-0 c.match-node.result w.in-Block.is w.cross_block.ensures (w.in_ok-cross_nodes-in-Block.ensures ∙ ap (λ x. cross_code (erased x)) w.first.ensures) w.result-is
      | cross_node-in-Loop+in_ok-cross_nodes-in-Loop w ↦ loop_arm (head_of n) first second w.in-Loop.ty w.in-Loop.field-1 w.cross_block-in-Loop.result w.in_ok-cross_nodes-in-Loop.field-0 c.match-node.result w.in-Loop.is w.cross_block-in-Loop.ensures (w.in_ok-cross_nodes-in-Loop.ensures ∙ ap (λ x. cross_code (erased x)) w.first-in-Loop.ensures) w.result-is
      | cross_node-in-If+in_ok-first-in-If+in_ok-second-in-If w ↦ if_arm (head_of n) first second w.in-If.ty w.in-If.field-1 w.in-If.field-2 w.cross_block-in-If.result w.in_ok-first-in-If.first w.in_ok-second-in-If.second c.match-node.result w.in-If.is w.cross_block-in-If.ensures (w.in_ok-first-in-If.ensures ∙ ap (λ x. cross_code (erased x)) w.first-in-If.ensures) (w.in_ok-second-in-If.ensures ∙ ap (λ x. cross_code (erased x)) w.second.ensures) w.result-is
      | cross_node-in-BrTable+in_ok-from_slice-in-BrTable w ↦ table_arm (head_of n) first second w.in-BrTable.labels w.in-BrTable.last w.in_ok-from_slice-in-BrTable.field-0 c.match-node.result w.in-BrTable.is (w.in_ok-from_slice-in-BrTable.ensures ∙ w.as_slice.ensures) w.result-is
      | cross_node-in_default+in_ok-cross_leaf-in_default w ↦
          let h : holds (out-Instr (head_of n)) ≡ false = search rules in
          let o : c.match-node.result ≡ roll-Instr1 (cross_leaf (out-Instr (head_of n))) = search rules in
          leaf_arm (head_of n) first second c.match-node.result h o
    ]

pub cross_nodes-returns : goal.cross_nodes-returns
cross_nodes-returns t c =
    let e : c.loop-node.out ≡ map crossed_node c.args.nodes.now = grind (arith, common_steps) in
    e ∙ sym (nodes_crossed c.args.nodes.now)
