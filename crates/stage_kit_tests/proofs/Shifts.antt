-- The layer of sign extension by shifts makes of each node what a step makes of its instruction.
use Rattle.std.proofs.Common.{◌≡◌, ℕ, List, [], ◌∷◌, ap, ◌∙◌}
use Rattle.num_core.specs.declared.operators.Width.{Width}
use Rattle.num_core.specs.declared.operators.Width.TheVariants.{W32, W64}
use Rattle.num_core.specs.declared.operators.Bin.TheVariants.{Shl, ShrS}
use Rattle.num_core.specs.declared.operators.Conv.TheVariants.{S8of32, S16of32, S8of64, S16of64, S32of64}
use Rattle.wasm_ast.specs.declared.module.ty.Ty.{Ty}
use Rattle.wasm_ast.specs.declared.module.op.Op.TheVariants as ops
use Rattle.wasm_ast.specs.declared.module.code.Instr.{Instr, out-Instr, roll-Instr}
use Rattle.wasm_ast.specs.declared.module.code.Instr.TheOpen.{Instr-F}
use Rattle.wasm_ast.specs.declared.module.code.Instr.TheFolds.{map-Instr}
use Rattle.wasm_ast.specs.declared.module.code.Instr.TheVariants.{Pure}
use Rattle.typed_trees.specs.declared.node.Node.{Node}
use Rattle.typed_trees.specs.Operands.{int_type}
use Rattle.typed_trees.specs.Trees.{with_bodies, erase, erased}
use Rattle.rewriting_kit.specs.Rewrites.{node_of}
use Rattle.simulation_kit.specs.Rewriting.{Step}
use Rattle.pass_plain.specs.Bodies.{no_entry}
use Rattle.pass_plain.specs.Shifts.{constant, extend, shifted, by_shifts}
use Rattle.pass_plain.proofs.Operators.{erase_pure}
use Rattle.stage_kit.specs.Kept.{keep}
use Rattle.stage_kit.proofs.Erased.{OwesStep, kept_node}

-- two shifts, as instructions
abbrev extended : Width → ℕ → List Instr
extended w n =
    roll-Instr (Instr-F.Pure (constant w n)) ∷ (roll-Instr (Instr-F.Pure (ops.Binary w Shl)) ∷ (roll-Instr (Instr-F.Pure (constant w n)) ∷ (roll-Instr (Instr-F.Pure (ops.Binary w ShrS)) ∷ [])))

abbrev pub sign_step : Step (Unit {0}) Instr-F Instr
sign_step (Instr-F.Pure (ops.Convert S8of32)) x = extended W32 24
sign_step (Instr-F.Pure (ops.Convert S16of32)) x = extended W32 16
sign_step (Instr-F.Pure (ops.Convert S8of64)) x = extended W64 56
sign_step (Instr-F.Pure (ops.Convert S16of64)) x = extended W64 48
sign_step (Instr-F.Pure (ops.Convert S32of64)) x = extended W64 32
sign_step l x = keep tt l

erased_extend : (w : Width) (n : ℕ) → erased (extend w n) ≡ extended w n
erased_extend w n =
    let one : List Ty = int_type w ∷ [] in
    let two : List Ty = int_type w ∷ (int_type w ∷ []) in
    let left : Instr = erase (node_of (Pure (ops.Binary w Shl)) two one [] []) in
    let right : Instr = erase (node_of (Pure (ops.Binary w ShrS)) two one [] []) in
    let put : Instr = roll-Instr (Instr-F.Pure (constant w n)) in
    ap (λ i. i ∷ (left ∷ (i ∷ (right ∷ [])))) (erase_pure (constant w n) [] one)
    ∙ ap (λ i. put ∷ (i ∷ (put ∷ (right ∷ [])))) (erase_pure (ops.Binary w Shl) two one)
    ∙ ap (λ i. put ∷ (roll-Instr (Instr-F.Pure (ops.Binary w Shl)) ∷ (put ∷ (i ∷ [])))) (erase_pure (ops.Binary w ShrS) two one)

stepped : (f : Instr → Unit {0} → List Instr) (l : Instr-F Instr) (kept : Node) (code code' : List Instr) → erased (kept ∷ []) ≡ keep tt (map-Instr Instr (Unit {0} → List Instr) f (with_bodies l code code'))
    → erased (shifted l (kept ∷ [])) ≡ sign_step (map-Instr Instr (Unit {0} → List Instr) f (with_bodies l code code')) tt
stepped f (Instr-F.Pure (ops.Convert S8of32)) kept code code' h = erased_extend W32 24
stepped f (Instr-F.Pure (ops.Convert S16of32)) kept code code' h = erased_extend W32 16
stepped f (Instr-F.Pure (ops.Convert S8of64)) kept code code' h = erased_extend W64 56
stepped f (Instr-F.Pure (ops.Convert S16of64)) kept code code' h = erased_extend W64 48
stepped f (Instr-F.Pure (ops.Convert S32of64)) kept code code' h = erased_extend W64 32
stepped f l kept code code' h = h

-- what the layer owes
pub shifts_owe : OwesStep no_entry by_shifts sign_step (λ x. tt)
shifts_owe = record {
  stepped = λ x head takes gives first second f code code' e e'.
      stepped f (out-Instr head) (node_of head takes gives first second) code code' (kept_node tt f head takes gives first second code code' e e');
}
