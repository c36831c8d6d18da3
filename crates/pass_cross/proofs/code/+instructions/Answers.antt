use Rattle.std.proofs.Common.{rules, arith, ◌≡◌, false, map, sym, ap, ◌∙◌}
use Rattle.std.proofs.lemmas.Grind.{common_steps}
use Rattle.wasm_ast.specs.declared.module.code.Instr.{Instr, out-Instr}
use Rattle.wasm_ast.specs.declared.module.code.Instr.TheOpen.{Instr-F}
use Rattle.wasm_ast.specs.declared.module.code.Instr.TheViews as views
use Rattle.core1_ast.specs.declared.module.code.Instr1.{roll-Instr1}
use Rattle.typed_trees.specs.Trees.{first_body, second_body}
use Rattle.crossing.specs.Code.{cross_code}
use Rattle.pass_cross.specs.Code.{cross_leaf, crossed_instr, holds}
use Rattle.pass_cross.proofs.Arms.{block_arm, loop_arm, if_arm, table_arm, leaf_arm}
use Rattle.pass_cross.proofs.Writing.{code_crossed}
use Rattle.pass_cross.proofs.code.+instructions.Goals as goal
use Rattle.pass_cross.proofs.code.+instructions.Goals.{cross_instr-in-Block+in_ok-cross_code-in-Block, cross_instr-in-Loop+in_ok-cross_code-in-Loop, cross_instr-in-If+in_ok-first-in-If+in_ok-second-in-If, cross_instr-in-BrTable+in_ok-from_slice-in-BrTable, cross_instr-in_default+in_ok-cross_leaf-in_default}

pub cross_instr-returns : goal.cross_instr-returns
cross_instr-returns t c =
    let n = c.args.instr.now in
    let first = cross_code (first_body (out-Instr n)) in
    let second = cross_code (second_body (out-Instr n)) in
    elim c.match-instr.branch [
      | cross_instr-in-Block+in_ok-cross_code-in-Block w ↦ block_arm n first second w.in-Block.ty w.in-Block.code w.cross_block.result w.in_ok-cross_code-in-Block.field-0 c.match-instr.result w.in-Block.is w.cross_block.ensures (w.in_ok-cross_code-in-Block.ensures ∙ ap (λ x. cross_code x) (w.as_slice.ensures ∙ sym (ap (λ (l : Instr-F Instr). first_body l) (ap out-Instr w.in-Block.is ∙ views.outs-Block w.in-Block.ty w.in-Block.code)))) w.result-is
      | cross_instr-in-Loop+in_ok-cross_code-in-Loop w ↦ loop_arm n first second w.in-Loop.ty w.in-Loop.code w.cross_block-in-Loop.result w.in_ok-cross_code-in-Loop.field-0 c.match-instr.result w.in-Loop.is w.cross_block-in-Loop.ensures (w.in_ok-cross_code-in-Loop.ensures ∙ ap (λ x. cross_code x) (w.as_slice-in-Loop.ensures ∙ sym (ap (λ (l : Instr-F Instr). first_body l) (ap out-Instr w.in-Loop.is ∙ views.outs-Loop w.in-Loop.ty w.in-Loop.code)))) w.result-is
      | cross_instr-in-If+in_ok-first-in-If+in_ok-second-in-If w ↦ if_arm n first second w.in-If.ty w.in-If.first w.in-If.second w.cross_block-in-If.result w.in_ok-first-in-If.first w.in_ok-second-in-If.second c.match-instr.result w.in-If.is w.cross_block-in-If.ensures (w.in_ok-first-in-If.ensures ∙ ap (λ x. cross_code x) (w.as_slice-in-If.ensures ∙ sym (ap (λ (l : Instr-F Instr). first_body l) (ap out-Instr w.in-If.is ∙ views.outs-If w.in-If.ty w.in-If.first w.in-If.second)))) (w.in_ok-second-in-If.ensures ∙ ap (λ x. cross_code x) (w.as_slice-in-If-2.ensures ∙ sym (ap (λ (l : Instr-F Instr). second_body l) (ap out-Instr w.in-If.is ∙ views.outs-If w.in-If.ty w.in-If.first w.in-If.second)))) w.result-is
      | cross_instr-in-BrTable+in_ok-from_slice-in-BrTable w ↦ table_arm n first second w.in-BrTable.labels w.in-BrTable.last w.in_ok-from_slice-in-BrTable.field-0 c.match-instr.result w.in-BrTable.is (w.in_ok-from_slice-in-BrTable.ensures ∙ w.as_slice-in-BrTable.ensures) w.result-is
      | cross_instr-in_default+in_ok-cross_leaf-in_default w ↦
          let h : holds (out-Instr n) ≡ false = search rules in
          let o : c.match-instr.result ≡ roll-Instr1 (cross_leaf (out-Instr n)) = search rules in
          leaf_arm n first second c.match-instr.result h o
    ]

pub cross_code-returns : goal.cross_code-returns
cross_code-returns t c =
    let e : c.loop-instr.out ≡ map crossed_instr c.args.code.now = grind (arith, common_steps) in
    e ∙ sym (code_crossed c.args.code.now)
