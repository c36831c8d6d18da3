-- Plain instructions as calls.
use Rattle.std.specs.Prelude.{◌≡◌, ℕ, Bool, true, false, if◌then◌else◌, List, Option, Some, None}
use Rattle.wasm_ast.specs.declared.module.code.Instr.{Instr, out-Instr}
use Rattle.wasm_ast.specs.declared.module.code.Instr.TheOpen.{Instr-F}
use Rattle.wasm_ast.specs.declared.module.op.Op.{Op}
use Rattle.wasm_ast.specs.declared.module.op.Op.TheVariants as ops
use Rattle.wasm_ast.specs.declared.module.parts.Module.{Module}
use Rattle.evaluation_kit.specs.declared.jump.Jump.{Jump}
use Rattle.evaluation_kit.specs.declared.jump.Jump.TheVariants.{Trap}
use Rattle.evaluation_kit.specs.Configurations.{Plain, PlainRes}
use Rattle.machine_kit.specs.declared.head.Step.{Step}
use Rattle.machine_kit.specs.declared.head.Step.TheVariants as steps
use Rattle.machine_kit.specs.Acts.{act_of, ended_by}
use Rattle.machine_kit.specs.Heads.{Acted}
use Rattle.machine_kit.specs.Stacks.{Stack}
use Rattle.run_kit.specs.declared.change.Change.{Change}
use Rattle.run_kit.specs.declared.change.Change.TheVariants.{Take, Exit}
use Rattle.run_kit.specs.Changes as changes
use Rattle.run_kit.specs.Narrowing.{part_act}
use Rattle.meaning_new.specs.declared.val.Val.{Val}
use Rattle.meaning_new.specs.Store.{Store, State, missing, with_store}
use Rattle.meaning_new.specs.Forms.{layer}
use Rattle.run_new.specs.States.{Kept, unbounded}

-- what an instruction does, where it is plain; no other one does anything by itself
abbrev pub act : Module → Instr → Plain Val State → PlainRes Val State
act m i = act_of (layer m Instr (out-Instr i))

-- an instruction that is given these operands does this change, and makes the second state of the first
abbrev pub Does : (Plain Val State → PlainRes Val State) → List Val → State → Change Val → State → Type 0
Does = changes.Does missing

-- the same, where it changes the store alone
abbrev pub DoesInStore : (Plain Val State → PlainRes Val State) → List Val → Store → Change Val → Store → Type 0
DoesInStore act given old change new = (s : State) → Does act given (with_store old s) change (with_store new s)

-- so many operands are taken where something fits, and else the instruction traps
abbrev pub fits_or_trap : Bool → ℕ → Change Val
fits_or_trap fits n = if fits then Take n else Exit 0 Trap

-- an instruction that neither holds code nor calls a function
abbrev pub is_plain : Instr-F Instr → Bool
is_plain (Instr-F.Block t code) = false
is_plain (Instr-F.Loop t code) = false
is_plain (Instr-F.If t a b) = false
is_plain (Instr-F.TryTable t clauses code) = false
is_plain (Instr-F.Call x) = false
is_plain (Instr-F.CallIndirect t x) = false
is_plain _ = true

-- a change is made to the operands in use, and the instruction ends so
abbrev pub Settles : Change Val → Stack Val → Stack Val → Option Jump → Type 0
Settles change o o' j =
    ((locals : List Val) (s : State) → changes.changed change (record { operands = o.used; locals = locals; state = s }) ≡ ended_by j (record { operands = o'.used; locals = locals; state = s }))
    × (o'.aside ≡ o.aside)

-- an instruction makes the second operands, locals and state of the first, and ends so
abbrev pub Ends : (Plain Val State → PlainRes Val State) → Stack Val → List Val → State → Stack Val → List Val → State → Option Jump → Type 0
Ends act o l s o' l' s' j =
    (act (record { operands = o.used; locals = l; state = s }) ≡ ended_by j (record { operands = o'.used; locals = l'; state = s' }))
    × (o'.aside ≡ o.aside)

-- what became of an instruction, in a run without bounds
abbrev pub Stepped : Module → Instr → Step → Stack Val → Stack Val → Kept → Stack Val → Stack Val → Kept → Type 0
Stepped m i steps.Next o l s o' l' s' = (is_plain (out-Instr i) ≡ true) × Acted (part_act unbounded (act m i)) o l s o' l' s' None
Stepped m i (steps.Jump j) o l s o' l' s' = (is_plain (out-Instr i) ≡ true) × Acted (part_act unbounded (act m i)) o l s o' l' s' (Some j)
Stepped m i steps.Form o l s o' l' s' = (is_plain (out-Instr i) ≡ false) × (o' ≡ o) × (l' ≡ l) × (s' ≡ s)

-- instructions on locals
abbrev pub IsOnLocals : Instr-F Instr → Type 0
IsOnLocals (Instr-F.LocalGet x) = Unit {0}
IsOnLocals (Instr-F.LocalSet x) = Unit {0}
IsOnLocals (Instr-F.LocalTee x) = Unit {0}
IsOnLocals _ = ⊥

-- drop, select and nop
abbrev pub IsParametric : Instr-F Instr → Type 0
IsParametric Instr-F.Drop = Unit {0}
IsParametric Instr-F.Select = Unit {0}
IsParametric (Instr-F.SelectTyped ts) = Unit {0}
IsParametric Instr-F.Nop = Unit {0}
IsParametric _ = ⊥

-- jumps
abbrev pub IsJump : Instr-F Instr → Type 0
IsJump Instr-F.Unreachable = Unit {0}
IsJump (Instr-F.Br l) = Unit {0}
IsJump (Instr-F.BrIf l) = Unit {0}
IsJump (Instr-F.BrTable labels last) = Unit {0}
IsJump Instr-F.Return = Unit {0}
IsJump (Instr-F.ReturnCall x) = Unit {0}
IsJump (Instr-F.Float code immediates) = Unit {0}
IsJump _ = ⊥

-- accesses to globals, and those of integers to memories
abbrev pub IsAccess : Instr-F Instr → Type 0
IsAccess (Instr-F.GlobalGet x) = Unit {0}
IsAccess (Instr-F.GlobalSet x) = Unit {0}
IsAccess (Instr-F.Load op at) = Unit {0}
IsAccess (Instr-F.Store op at) = Unit {0}
IsAccess _ = ⊥

-- accesses of vectors to memories
abbrev pub IsVectorAccess : Instr-F Instr → Type 0
IsVectorAccess (Instr-F.LoadVector op at) = Unit {0}
IsVectorAccess (Instr-F.StoreVector at) = Unit {0}
IsVectorAccess (Instr-F.LoadLane shape at lane) = Unit {0}
IsVectorAccess (Instr-F.StoreLane shape at lane) = Unit {0}
IsVectorAccess _ = ⊥

-- instructions on the size of memories and on ranges of them
abbrev pub IsOnMemories : Instr-F Instr → Type 0
IsOnMemories (Instr-F.MemorySize x) = Unit {0}
IsOnMemories (Instr-F.MemoryFill x) = Unit {0}
IsOnMemories (Instr-F.MemoryCopy x y) = Unit {0}
IsOnMemories (Instr-F.MemoryInit x y) = Unit {0}
IsOnMemories (Instr-F.DataDrop x) = Unit {0}
IsOnMemories _ = ⊥

-- instructions on tables
abbrev pub IsOnTables : Instr-F Instr → Type 0
IsOnTables (Instr-F.TableGet x) = Unit {0}
IsOnTables (Instr-F.TableSet x) = Unit {0}
IsOnTables (Instr-F.TableSize x) = Unit {0}
IsOnTables (Instr-F.TableFill x) = Unit {0}
IsOnTables (Instr-F.TableCopy x y) = Unit {0}
IsOnTables (Instr-F.TableInit x y) = Unit {0}
IsOnTables (Instr-F.ElemDrop x) = Unit {0}
IsOnTables _ = ⊥

-- exceptions, growths, tail calls that the operands pick, and instructions on whole memories and tables
abbrev pub IsRare : Instr-F Instr → Type 0
IsRare (Instr-F.ReturnCallIndirect t x) = Unit {0}
IsRare (Instr-F.Throw x) = Unit {0}
IsRare Instr-F.ThrowRef = Unit {0}
IsRare (Instr-F.MemoryGrow x) = Unit {0}
IsRare (Instr-F.TableGrow x) = Unit {0}
IsRare (Instr-F.MemorySize x) = Unit {0}
IsRare (Instr-F.MemoryFill x) = Unit {0}
IsRare (Instr-F.MemoryCopy x y) = Unit {0}
IsRare (Instr-F.MemoryInit x y) = Unit {0}
IsRare (Instr-F.DataDrop x) = Unit {0}
IsRare (Instr-F.TableGet x) = Unit {0}
IsRare (Instr-F.TableSet x) = Unit {0}
IsRare (Instr-F.TableSize x) = Unit {0}
IsRare (Instr-F.TableFill x) = Unit {0}
IsRare (Instr-F.TableCopy x y) = Unit {0}
IsRare (Instr-F.TableInit x y) = Unit {0}
IsRare (Instr-F.ElemDrop x) = Unit {0}
IsRare _ = ⊥

-- operators on vectors
abbrev pub IsOnVectors : Op → Type 0
IsOnVectors (ops.V128Const v) = Unit {0}
IsOnVectors ops.Bitselect = Unit {0}
IsOnVectors (ops.Shuffle places) = Unit {0}
IsOnVectors (ops.Splat shape) = Unit {0}
IsOnVectors (ops.Extract op lane) = Unit {0}
IsOnVectors (ops.Replace shape lane) = Unit {0}
IsOnVectors (ops.Lanes1 op) = Unit {0}
IsOnVectors (ops.Lanes2 op) = Unit {0}
IsOnVectors (ops.ShiftLanes op) = Unit {0}
IsOnVectors (ops.TestLanes op) = Unit {0}
IsOnVectors _ = ⊥
