-- Plain instructions on the stacks of a machine.
use Rattle.std.specs.Prelude.{◌≡◌, List, Option}
use Rattle.core1_ast.specs.declared.module.code.Instr1.{Instr1, out-Instr1}
use Rattle.core1_ast.specs.declared.module.code.Instr1.TheOpen.{Instr1-F}
use Rattle.core1_ast.specs.declared.module.parts.Module1.{Module1}
use Rattle.evaluation_kit.specs.declared.jump.Jump.{Jump}
use Rattle.evaluation_kit.specs.Configurations.{Plain, PlainRes}
use Rattle.machine_kit.specs.Acts.{act_of, ended_by}
use Rattle.machine_kit.specs.Stacks.{Stack}
use Rattle.meaning_core1.specs.declared.val1.Val1.{Val1}
use Rattle.meaning_core1.specs.Store.{State1}
use Rattle.meaning_core1.specs.Language.{layer1}
use Rattle.run_core1.specs.declared.change.Change.{Change}
use Rattle.run_core1.specs.Changes.{changed}

-- what an instruction does, where it is plain; no other one does anything by itself
abbrev pub act1 : Module1 → Instr1 → Plain Val1 State1 → PlainRes Val1 State1
act1 m i = act_of (layer1 m Instr1 (out-Instr1 i))

-- a change is made to the operands in use, and the instruction ends so
abbrev pub Settles : Change → Stack Val1 → Stack Val1 → Option Jump → Type 0
Settles change o o' j =
    ((locals : List Val1) (s : State1) → changed change (record { operands = o.used; locals = locals; state = s }) ≡ ended_by j (record { operands = o'.used; locals = locals; state = s }))
    × (o'.aside ≡ o.aside)

-- an instruction makes the second operands, locals and state of the first, and ends so
abbrev pub Ends : (Plain Val1 State1 → PlainRes Val1 State1) → Stack Val1 → List Val1 → State1 → Stack Val1 → List Val1 → State1 → Option Jump → Type 0
Ends act o l s o' l' s' j =
    (act (record { operands = o.used; locals = l; state = s }) ≡ ended_by j (record { operands = o'.used; locals = l'; state = s' }))
    × (o'.aside ≡ o.aside)

-- instructions on locals, on operands of any type, on the store, and of control that are plain
abbrev pub IsOnLocals : Instr1-F Instr1 → Type 0
IsOnLocals (Instr1-F.LocalGet x) = Unit {0}
IsOnLocals (Instr1-F.LocalSet x) = Unit {0}
IsOnLocals (Instr1-F.LocalTee x) = Unit {0}
IsOnLocals _ = ⊥

abbrev pub IsParametric : Instr1-F Instr1 → Type 0
IsParametric Instr1-F.Drop = Unit {0}
IsParametric Instr1-F.Select = Unit {0}
IsParametric Instr1-F.Nop = Unit {0}
IsParametric _ = ⊥

abbrev pub IsOnStore : Instr1-F Instr1 → Type 0
IsOnStore (Instr1-F.GlobalGet x) = Unit {0}
IsOnStore (Instr1-F.GlobalSet x) = Unit {0}
IsOnStore (Instr1-F.Load op at) = Unit {0}
IsOnStore (Instr1-F.Store op at) = Unit {0}
IsOnStore Instr1-F.MemorySize = Unit {0}
IsOnStore Instr1-F.MemoryGrow = Unit {0}
IsOnStore _ = ⊥

abbrev pub IsJump : Instr1-F Instr1 → Type 0
IsJump Instr1-F.Unreachable = Unit {0}
IsJump (Instr1-F.Br l) = Unit {0}
IsJump (Instr1-F.BrIf l) = Unit {0}
IsJump (Instr1-F.BrTable labels last) = Unit {0}
IsJump Instr1-F.Return = Unit {0}
IsJump (Instr1-F.Float code immediates) = Unit {0}
IsJump _ = ⊥
