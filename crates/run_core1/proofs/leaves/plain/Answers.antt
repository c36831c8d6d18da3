use Rattle.std.proofs.Common.{◌≡◌, ℕ, refl, sym, ap, ◌∙◌}
use Rattle.core1_ast.specs.declared.module.code.Instr1.{Instr1, out-Instr1, out-roll-Instr1}
use Rattle.core1_ast.specs.declared.module.code.Instr1.TheOpen.{Instr1-F}
use Rattle.core1_ast.specs.declared.module.code.Instr1.TheVariants.{rolls-Pure}
use Rattle.core1_ast.specs.declared.module.op.Op1.{Op1}
use Rattle.core1_ast.specs.declared.module.parts.Module1.{Module1}
use Rattle.evaluation_kit.specs.Forms.{Flat}
use Rattle.machine_kit.specs.Acts.{act_of}
use Rattle.machine_kit.proofs.Done.{is_done}
use Rattle.meaning_core1.specs.Language.{layer1}
use Rattle.run_core1.specs.Leaves.{IsOnLocals, IsParametric, IsOnStore, IsJump}
use Rattle.run_core1.proofs.leaves.plain.Goals as goal
