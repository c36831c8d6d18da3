-- Code of constants and globals, of which the constant expressions of a typed module consist.
use Rattle.std.specs.Prelude.{List}
use Rattle.std.specs.List.{All, AllByRecursion}
use Rattle.core1_ast.specs.declared.module.op.Op1.{Op1}
use Rattle.core1_ast.specs.declared.module.op.Op1.TheVariants.{I32Const, I64Const}
use Rattle.core1_ast.specs.declared.module.code.Instr1.{Instr1, out-Instr1}
use Rattle.core1_ast.specs.declared.module.code.Instr1.TheOpen.{Instr1-F}
use Rattle.core1_ast.specs.declared.module.parts.Module1.{Module1}

abbrev pub IsConstantOp : Op1 → Type 0
IsConstantOp (I32Const i) = Unit {0}
IsConstantOp (I64Const i) = Unit {0}
IsConstantOp _ = ⊥

abbrev pub IsConstantInstr : Instr1-F Instr1 → Type 0
IsConstantInstr (Instr1-F.Pure op) = IsConstantOp op
IsConstantInstr (Instr1-F.GlobalGet x) = Unit {0}
IsConstantInstr _ = ⊥

abbrev pub IsConstantCode : List Instr1 → Type 0
IsConstantCode code = AllByRecursion (λ i. IsConstantInstr (out-Instr1 i)) code

-- the constant expressions of a module are such code
pub record HasConstants (m : Module1) : Type 0 where
  pub globals : All (λ g. IsConstantCode g.init) m.globals
  pub elems : All (λ e. IsConstantCode e.offset) m.elems
  pub datas : All (λ d. IsConstantCode d.offset) m.datas
