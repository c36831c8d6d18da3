-- The value of a constant expression is that of its last instruction.
use Rattle.std.proofs.Common.{◌≡◌, suc, ◌-◌, List, [], ◌∷◌, length, slice_get, Some, refl, ap, sym, ◌∙◌, arith}
use Rattle.core1_ast.specs.declared.module.op.Op1.{Op1}
use Rattle.core1_ast.specs.declared.module.op.Op1.TheVariants.{I32Const, I64Const}
use Rattle.core1_ast.specs.declared.module.code.Instr1.{Instr1, out-Instr1}
use Rattle.core1_ast.specs.declared.module.code.Instr1.TheOpen.{Instr1-F}
use Rattle.evaluation_kit.specs.Leaves.{top}
use Rattle.meaning_core1.specs.declared.val1.Val1.{Val1}
use Rattle.meaning_core1.specs.Store.{absent}
use Rattle.meaning_core1.specs.Instances.{const_step, const_steps}
use Rattle.run_core1.specs.Constants.{IsConstantOp, IsConstantInstr, IsConstantCode}

same_op : (globals : List Val1) (op : Op1) (s : List Val1) → IsConstantOp op → top absent (const_step globals (Instr1-F.Pure op) s) ≡ top absent (const_step globals (Instr1-F.Pure op) [])
same_op globals (I32Const i) s h = refl
same_op globals (I64Const i) s h = refl
same_op globals op s h = absurd h

-- a constant does not ask what lies below it
same_step : (globals : List Val1) (l : Instr1-F Instr1) (s : List Val1) → IsConstantInstr l → top absent (const_step globals l s) ≡ top absent (const_step globals l [])
same_step globals (Instr1-F.Pure op) s h = same_op globals op s h
same_step globals (Instr1-F.GlobalGet x) s h = refl
same_step globals l s h = absurd h

-- the last of more than one item lies among those behind the first
last_behind : (i j : Instr1) (more : List Instr1) → slice_get (i ∷ (j ∷ more)) (length (i ∷ (j ∷ more)) - 1) ≡ slice_get (j ∷ more) (length (j ∷ more) - 1)
last_behind i j more = let e : length (i ∷ (j ∷ more)) - 1 ≡ suc (length (j ∷ more) - 1) = omega arith in rw e

pub last_value : (globals : List Val1) (code : List Instr1) (s : List Val1) (i : Instr1) → IsConstantCode code → slice_get code (length code - 1) ≡ Some i → top absent (const_steps globals code s) ≡ top absent (const_step globals (out-Instr1 i) [])
last_value globals [] s i h e = cc
last_value globals (j ∷ []) s i h e = let same : j ≡ i = cc in same_step globals (out-Instr1 j) s h.0 ∙ ap (λ k. top absent (const_step globals (out-Instr1 k) [])) same
last_value globals (j ∷ (k ∷ more)) s i h e = last_value globals (k ∷ more) (const_step globals (out-Instr1 j) s) i h.1 (sym (last_behind j k more) ∙ e)
