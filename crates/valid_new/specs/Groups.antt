-- The groups in which instructions are planned, and what is told of a plan.
use Rattle.std.specs.Prelude.{◌≡◌, List}
use Rattle.wasm_ast.specs.declared.module.ty.Ty.{Ty}
use Rattle.wasm_ast.specs.declared.module.code.Instr.{Instr, out-Instr}
use Rattle.wasm_ast.specs.declared.module.code.Instr.TheOpen.{Instr-F}
use Rattle.typing_kit.specs.declared.plan.Plan.{Plan}
use Rattle.typing_kit.specs.declared.plan.Plan.TheVariants as plans
use Rattle.typing_kit.specs.Steps.{IsPlanOf}
use Rattle.typed_trees.specs.Contexts.{Context}
use Rattle.typed_trees.specs.Forms.{form}
use Rattle.valid_new.specs.declared.groups.Group.{Group}
use Rattle.valid_new.specs.declared.groups.Group.TheVariants.{Variables, Control, Tables, Memories, Nested}

abbrev pub group : {A : Type 0} → Instr-F A → Group
group Instr-F.Nop = Variables
group Instr-F.Unreachable = Variables
group Instr-F.Drop = Variables
group Instr-F.Select = Variables
group (Instr-F.SelectTyped ts) = Variables
group (Instr-F.LocalGet x) = Variables
group (Instr-F.LocalSet x) = Variables
group (Instr-F.LocalTee x) = Variables
group (Instr-F.GlobalGet x) = Variables
group (Instr-F.GlobalSet x) = Variables
group (Instr-F.TableGet x) = Tables
group (Instr-F.TableSet x) = Tables
group (Instr-F.TableSize x) = Tables
group (Instr-F.TableGrow x) = Tables
group (Instr-F.TableFill x) = Tables
group (Instr-F.TableCopy to from) = Tables
group (Instr-F.TableInit segment x) = Tables
group (Instr-F.ElemDrop segment) = Tables
group (Instr-F.Load op arg) = Memories
group (Instr-F.Store op arg) = Memories
group (Instr-F.LoadVector op arg) = Memories
group (Instr-F.StoreVector arg) = Memories
group (Instr-F.LoadLane shape arg lane) = Memories
group (Instr-F.StoreLane shape arg lane) = Memories
group (Instr-F.MemorySize x) = Memories
group (Instr-F.MemoryGrow x) = Memories
group (Instr-F.MemoryFill x) = Memories
group (Instr-F.MemoryCopy to from) = Memories
group (Instr-F.MemoryInit segment x) = Memories
group (Instr-F.DataDrop segment) = Memories
group (Instr-F.Block type code) = Nested
group (Instr-F.Loop type code) = Nested
group (Instr-F.If type first second) = Nested
group (Instr-F.TryTable type clauses code) = Nested
group (Instr-F.BrTable ls last) = Nested
group _ = Control

-- what is told of a plan: it is that of the instruction, or the instruction holds code or is a br_table
abbrev pub IsPlanned : Plan Ty → Context → List (List Ty) → Instr → Type 0
IsPlanned plans.Nested c ls i = group (out-Instr i) ≡ Nested
IsPlanned plan c ls i = IsPlanOf plan (form c ls i)
