-- When code of 1.0 is typed ("Instructions" of chapter 3), by rules. A list of operand types has the top last.
use Rattle.std.specs.Prelude.{◌≡◌, ℕ, ◌<◌, ◌≤◌, ◌^◌, true, List, [], ◌∷◌, ◌++◌, length, Option, Some, slice_get, option_and_then}
use Rattle.std.specs.List.{AllByRecursion}
use Rattle.num_core.specs.declared.operators.Load.{Load}
use Rattle.num_core.specs.declared.operators.Store.{Store}
use Rattle.core1_ast.specs.declared.module.ty.Ty1.{Ty1}
use Rattle.core1_ast.specs.declared.module.ty.Ty1.TheVariants as types
use Rattle.core1_ast.specs.declared.module.ty.BlockType1.{BlockType1}
use Rattle.core1_ast.specs.declared.module.ty.FuncType1.{FuncType1}
use Rattle.core1_ast.specs.declared.module.ty.Limits1.{Limits1}
use Rattle.core1_ast.specs.declared.module.immediates.MemArg1.{MemArg1}
use Rattle.core1_ast.specs.declared.module.op.Op1.{Op1}
use Rattle.core1_ast.specs.declared.module.code.Instr1.{Instr1}
use Rattle.core1_ast.specs.declared.module.code.Instr1.TheVariants as instrs
use Rattle.core1_ast.specs.Operands.{op_takes, op_gives, load_type, store_type, block_results}
use Rattle.num_core.specs.Accesses.{load_bytes, store_bytes}
use Rattle.core1_ast.specs.Lengths.{IsShort}
use Rattle.core1_ast.specs.Spaces.{GlobalType}

-- "Contexts": what code may name
pub record Context : Type 0 where
  pub types : List FuncType1
  -- the index of the type of each function
  pub funcs : List ℕ
  pub tables : List Limits1
  pub memories : List Limits1
  pub globals : List GlobalType
  pub locals : List Ty1
  -- the operands that a branch to each label takes, the innermost label first
  pub labels : List (List Ty1)
  -- the results of the function, inside one
  pub returns : Option (List Ty1)

-- "Value Types": the integers; there is no rule for a float
abbrev pub TypedTy : Ty1 → Type 0
TypedTy types.I32 = Unit {0}
TypedTy types.I64 = Unit {0}
TypedTy types.F32 = ⊥
TypedTy types.F64 = ⊥

-- the type of a function
abbrev pub func_type : Context → ℕ → Option FuncType1
func_type c x = option_and_then (slice_get c.types) (slice_get c.funcs x)

-- a table and a memory that code may use
abbrev pub HasTable : Context → Type 0
HasTable c = 0 < length c.tables

abbrev pub HasMemory : Context → Type 0
HasMemory c = 0 < length c.memories

-- the context inside a block: a branch to its label takes these operands
abbrev pub labelled : List Ty1 → Context → Context
labelled ts c = record c { labels = ts ∷ c.labels }

mutual
  -- In the context the instruction takes the first types from the stack and leaves the second ones. There is no rule
  -- for an instruction on floats.
  pub data Typed : Context → Instr1 → List Ty1 → List Ty1 → Type 0 where
    -- "Numeric Instructions"
    pure : (c : Context) (i : Instr1) (op : Op1) → i ≡ instrs.Pure op → Typed c i (op_takes op) (op_gives op)
    -- "Parametric Instructions"
    drop : (c : Context) (i : Instr1) (t : Ty1) → i ≡ instrs.Drop → Typed c i (t ∷ []) []
    select : (c : Context) (i : Instr1) (t : Ty1) → i ≡ instrs.Select → Typed c i (t ∷ (t ∷ (types.I32 ∷ []))) (t ∷ [])
    -- "Variable Instructions"
    local_get : (c : Context) (i : Instr1) (x : ℕ) (t : Ty1) → i ≡ instrs.LocalGet x → slice_get c.locals x ≡ Some t → Typed c i [] (t ∷ [])
    local_set : (c : Context) (i : Instr1) (x : ℕ) (t : Ty1) → i ≡ instrs.LocalSet x → slice_get c.locals x ≡ Some t → Typed c i (t ∷ []) []
    local_tee : (c : Context) (i : Instr1) (x : ℕ) (t : Ty1) → i ≡ instrs.LocalTee x → slice_get c.locals x ≡ Some t → Typed c i (t ∷ []) (t ∷ [])
    global_get : (c : Context) (i : Instr1) (x : ℕ) (g : GlobalType) → i ≡ instrs.GlobalGet x → slice_get c.globals x ≡ Some g → Typed c i [] (g.type ∷ [])
    global_set : (c : Context) (i : Instr1) (x : ℕ) (g : GlobalType) → i ≡ instrs.GlobalSet x → slice_get c.globals x ≡ Some g → g.mutable ≡ true → Typed c i (g.type ∷ []) []
    -- "Memory Instructions": the alignment is at most the natural one
    load : (c : Context) (i : Instr1) (op : Load) (arg : MemArg1) → i ≡ instrs.Load op arg → HasMemory c → 2 ^ arg.align ≤ load_bytes op → Typed c i (types.I32 ∷ []) (load_type op ∷ [])
    store : (c : Context) (i : Instr1) (op : Store) (arg : MemArg1) → i ≡ instrs.Store op arg → HasMemory c → 2 ^ arg.align ≤ store_bytes op → Typed c i (types.I32 ∷ (store_type op ∷ [])) []
    memory_size : (c : Context) (i : Instr1) → i ≡ instrs.MemorySize → HasMemory c → Typed c i [] (types.I32 ∷ [])
    memory_grow : (c : Context) (i : Instr1) → i ≡ instrs.MemoryGrow → HasMemory c → Typed c i (types.I32 ∷ []) (types.I32 ∷ [])
    -- "Control Instructions": after unreachable, br, br_table and return the stack is any; a list in an instruction
    -- is short
    nop : (c : Context) (i : Instr1) → i ≡ instrs.Nop → Typed c i [] []
    unreachable : (c : Context) (i : Instr1) (below after : List Ty1) → i ≡ instrs.Unreachable → Typed c i below after
    block : (c : Context) (i : Instr1) (type : BlockType1) (code : List Instr1) → i ≡ instrs.Block type code → IsShort code → AllByRecursion TypedTy (block_results type) → TypedCode (labelled (block_results type) c) code [] (block_results type) → Typed c i [] (block_results type)
    -- a branch to the label of a loop takes nothing
    loop : (c : Context) (i : Instr1) (type : BlockType1) (code : List Instr1) → i ≡ instrs.Loop type code → IsShort code → AllByRecursion TypedTy (block_results type) → TypedCode (labelled [] c) code [] (block_results type) → Typed c i [] (block_results type)
    choice : (c : Context) (i : Instr1) (type : BlockType1) (first second : List Instr1) → i ≡ instrs.If type first second → IsShort first → IsShort second → AllByRecursion TypedTy (block_results type) → TypedCode (labelled (block_results type) c) first [] (block_results type) → TypedCode (labelled (block_results type) c) second [] (block_results type) → Typed c i (types.I32 ∷ []) (block_results type)
    br : (c : Context) (i : Instr1) (l : ℕ) (ts below after : List Ty1) → i ≡ instrs.Br l → slice_get c.labels l ≡ Some ts → Typed c i (below ++ ts) after
    br_if : (c : Context) (i : Instr1) (l : ℕ) (ts : List Ty1) → i ≡ instrs.BrIf l → slice_get c.labels l ≡ Some ts → Typed c i (ts ++ types.I32 ∷ []) ts
    br_table : (c : Context) (i : Instr1) (ls : List ℕ) (last : ℕ) (ts below after : List Ty1) → i ≡ instrs.BrTable ls last → IsShort ls → AllByRecursion (λ l. slice_get c.labels l ≡ Some ts) ls → slice_get c.labels last ≡ Some ts → Typed c i (below ++ ts ++ types.I32 ∷ []) after
    leave : (c : Context) (i : Instr1) (ts below after : List Ty1) → i ≡ instrs.Return → c.returns ≡ Some ts → Typed c i (below ++ ts) after
    call : (c : Context) (i : Instr1) (x : ℕ) (t : FuncType1) → i ≡ instrs.Call x → func_type c x ≡ Some t → Typed c i t.params t.results
    call_indirect : (c : Context) (i : Instr1) (x : ℕ) (t : FuncType1) → i ≡ instrs.CallIndirect x → HasTable c → slice_get c.types x ≡ Some t → Typed c i (t.params ++ types.I32 ∷ []) t.results

  -- "Instruction Sequences": nothing, or one instruction more over operands that it leaves as they are
  pub data TypedCode : Context → List Instr1 → List Ty1 → List Ty1 → Type 0 where
    none : (c : Context) (stack : List Ty1) → TypedCode c [] stack stack
    more : (c : Context) (i : Instr1) (code : List Instr1) (below takes gives after : List Ty1) → Typed c i takes gives → TypedCode c code (below ++ gives) after → TypedCode c (i ∷ code) (below ++ takes) after
