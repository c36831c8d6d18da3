-- The form of each instruction of a module ("Instructions" of chapter 4), and what its functions are: the language in
-- which the module is written.
use Rattle.std.specs.Prelude.{ℕ, ◌-◌, Bool, true, false, not, nat_eq, nat_lt, bytes_eq, if◌then◌else◌, List, [], ◌∷◌, length, map, slice_get, Option, Some, None, option_map, option_and_then, count_by}
use Rattle.host_kit.specs.Offered.{func_type}
use Rattle.wasm_ast.specs.Types.{type_key}
use Rattle.wasm_ast.specs.declared.module.ty.BlockType.{BlockType}
use Rattle.wasm_ast.specs.declared.module.ty.BlockType.TheVariants as blocks
use Rattle.wasm_ast.specs.declared.module.ty.FuncType.{FuncType}
use Rattle.wasm_ast.specs.declared.module.parts.ImportDesc.{ImportDesc}
use Rattle.wasm_ast.specs.declared.module.parts.ImportDesc.TheVariants as imports
use Rattle.wasm_ast.specs.declared.module.parts.Module.{Module}
use Rattle.wasm_ast.specs.declared.module.code.Body.{Body}
use Rattle.wasm_ast.specs.declared.module.code.Instr.{Instr}
use Rattle.wasm_ast.specs.declared.module.code.Instr.TheOpen.{Instr-F}
use Rattle.evaluation_kit.specs.declared.jump.Jump.TheVariants as jumps
use Rattle.outcome_kit.specs.Code.{Leave}
use Rattle.evaluation_kit.specs.Configurations.{Plain, PlainRes}
use Rattle.evaluation_kit.specs.Control.{Function, Callee, Own, Host}
use Rattle.evaluation_kit.specs.Forms.{Form, Flat, Enclose, Repeat, Choose, Guard, Invoke, InvokeBy}
use Rattle.evaluation_kit.specs.Leaves as leaves
use Rattle.evaluation_kit.specs.Leaves.{top, below, on_operands}
use Rattle.meaning_new.specs.declared.val.Val.{Val}
use Rattle.meaning_new.specs.declared.val.Val.TheVariants as vals
use Rattle.meaning_new.specs.Store.{State, missing, default, on_store, on_growth}
use Rattle.meaning_new.specs.Numeric.{first, pure}
use Rattle.meaning_new.specs.Memories
use Rattle.meaning_new.specs.Tables
use Rattle.meaning_new.specs.Exceptions.{throw, throw_ref, handler}
use Rattle.meaning_new.specs.Host.{host_call}
use Rattle.meaning_new.specs.Interface.{tag_indices}

abbrev pub type_of_tag : Module → ℕ → Option FuncType
type_of_tag m x = option_and_then (slice_get m.types) (slice_get (tag_indices m) x)

-- how many operands a type takes and gives
abbrev pub param_count : Option FuncType → ℕ
param_count None = 0
param_count (Some t) = length t.params

abbrev pub result_count : Option FuncType → ℕ
result_count None = 0
result_count (Some t) = length t.results

-- "Block Types"
abbrev pub type_of_block : Module → BlockType → Option FuncType
type_of_block m blocks.Empty = Some (record { params = []; results = [] })
type_of_block m (blocks.One t) = Some (record { params = []; results = t ∷ [] })
type_of_block m (blocks.Index x) = slice_get m.types x

abbrev pub takes : Module → BlockType → ℕ
takes m t = param_count (type_of_block m t)

abbrev pub gives : Module → BlockType → ℕ
gives m t = result_count (type_of_block m t)

-- a condition holds where its operand is not 0
abbrev pub holds : List Val → Bool
holds operands = not (nat_eq (first operands) 0)

-- drop, and select: the first operand where the condition on the top holds, else the second
abbrev pub drop_operand : List Val → Option (List Val)
drop_operand operands = Some (below operands)

abbrev pub select : List Val → Option (List Val)
select operands =
    Some ((if holds operands then top missing (below (below operands)) else top missing (below operands)) ∷ below (below (below operands)))

-- call_indirect: the function to which an entry of the table refers, where it has the type
abbrev pub function_of : Val → Option ℕ
function_of (vals.Func f) = Some f
function_of _ = None

abbrev pub same_type : Option FuncType → Option FuncType → Bool
same_type (Some s) (Some t) = bytes_eq (type_key s) (type_key t)
same_type _ _ = false

abbrev pub of_type : Module → ℕ → ℕ → Option ℕ
of_type m type f = if same_type (func_type m f) (slice_get m.types type) then Some f else None

abbrev pub pick : Module → ℕ → ℕ → Plain Val State → Option ℕ
pick m type table p =
    option_and_then (of_type m type) (option_and_then function_of (option_and_then (λ t. slice_get t.entries (first p.operands)) (slice_get p.state.store.tables table)))

-- return_call_indirect
abbrev pub tail_call : Option ℕ → Plain Val State → PlainRes Val State
tail_call None p = Leave jumps.Trap p
tail_call (Some f) p = Leave (jumps.TailCall f) p

abbrev pub tail_call_by : Module → ℕ → ℕ → Plain Val State → PlainRes Val State
tail_call_by m type table p = tail_call (pick m type table p) (leaves.with_operands (below p.operands) p)

-- an instruction, whose bodies hold anything
abbrev pub layer : Module → (X : Type 0) → Instr-F X → Form Val State X
-- "Parametric Instructions"
layer m X Instr-F.Nop = Flat leaves.nothing
layer m X Instr-F.Unreachable = Flat (leaves.jump jumps.Trap)
layer m X Instr-F.Drop = Flat (on_operands drop_operand)
layer m X Instr-F.Select = Flat (on_operands select)
layer m X (Instr-F.SelectTyped ts) = Flat (on_operands select)
-- "Control Instructions"
layer m X (Instr-F.Block t code) = Enclose (takes m t) (gives m t) code
layer m X (Instr-F.Loop t code) = Repeat (takes m t) (gives m t) code
layer m X (Instr-F.If t first second) = Choose holds (takes m t) (gives m t) first second
layer m X (Instr-F.Br l) = Flat (leaves.jump (jumps.Branch l))
layer m X (Instr-F.BrIf l) = Flat (leaves.branch_if holds l)
layer m X (Instr-F.BrTable labels last) = Flat (leaves.branch_table first labels last)
layer m X Instr-F.Return = Flat (leaves.jump jumps.Return)
layer m X (Instr-F.Call x) = Invoke (param_count (func_type m x)) x
layer m X (Instr-F.CallIndirect t table) = InvokeBy (param_count (slice_get m.types t)) (pick m t table)
layer m X (Instr-F.ReturnCall x) = Flat (leaves.jump (jumps.TailCall x))
layer m X (Instr-F.ReturnCallIndirect t table) = Flat (tail_call_by m t table)
layer m X (Instr-F.Throw x) = Flat (throw x (param_count (type_of_tag m x)))
layer m X Instr-F.ThrowRef = Flat throw_ref
layer m X (Instr-F.TryTable t clauses code) = Guard (takes m t) (gives m t) (handler clauses) code
-- "Variable Instructions"
layer m X (Instr-F.LocalGet x) = Flat (leaves.get_local missing x)
layer m X (Instr-F.LocalSet x) = Flat (leaves.set_local missing x)
layer m X (Instr-F.LocalTee x) = Flat (leaves.tee_local missing x)
layer m X (Instr-F.GlobalGet x) = Flat (on_store (Tables.global_get x))
layer m X (Instr-F.GlobalSet x) = Flat (on_store (Tables.global_set x))
-- "Table Instructions"
layer m X (Instr-F.TableGet x) = Flat (on_store (Tables.table_get x))
layer m X (Instr-F.TableSet x) = Flat (on_store (Tables.table_set x))
layer m X (Instr-F.TableSize x) = Flat (on_store (Tables.table_size x))
layer m X (Instr-F.TableGrow x) = Flat (on_growth (Tables.table_grow x))
layer m X (Instr-F.TableFill x) = Flat (on_store (Tables.table_fill x))
layer m X (Instr-F.TableCopy to from) = Flat (on_store (Tables.table_copy to from))
layer m X (Instr-F.TableInit segment x) = Flat (on_store (Tables.table_init segment x))
layer m X (Instr-F.ElemDrop segment) = Flat (on_store (Tables.elem_drop segment))
-- "Memory Instructions"
layer m X (Instr-F.Load op arg) = Flat (on_store (Memories.load_integer op arg))
layer m X (Instr-F.Store op arg) = Flat (on_store (Memories.store_integer op arg))
layer m X (Instr-F.LoadVector op arg) = Flat (on_store (Memories.load_vector op arg))
layer m X (Instr-F.StoreVector arg) = Flat (on_store (Memories.store_vector arg))
layer m X (Instr-F.LoadLane shape arg lane) = Flat (on_store (Memories.load_lane shape arg lane))
layer m X (Instr-F.StoreLane shape arg lane) = Flat (on_store (Memories.store_lane shape arg lane))
layer m X (Instr-F.MemorySize x) = Flat (on_store (Memories.memory_size x))
layer m X (Instr-F.MemoryGrow x) = Flat (on_growth (Memories.memory_grow x))
layer m X (Instr-F.MemoryFill x) = Flat (on_store (Memories.memory_fill x))
layer m X (Instr-F.MemoryCopy to from) = Flat (on_store (Memories.memory_copy to from))
layer m X (Instr-F.MemoryInit segment x) = Flat (on_store (Memories.memory_init segment x))
layer m X (Instr-F.DataDrop segment) = Flat (on_store (Memories.data_drop segment))
-- "Numeric Instructions", "Vector Instructions" and "Reference Instructions"
layer m X (Instr-F.Pure op) = Flat (on_operands (pure op))
-- an instruction on floats is in no module that is run
layer m X (Instr-F.Float code immediates) = Flat (leaves.jump jumps.Trap)

-- a function of the module, and what an index names: the imported functions come first
abbrev pub function : FuncType → Body → Function Instr Val
function t body = record { params = length t.params; results = length t.results; zeros = map default body.locals; body = body.code }

abbrev pub is_func : ImportDesc → Bool
is_func (imports.Func t) = true
is_func _ = false

abbrev pub imported_funcs : Module → ℕ
imported_funcs m = count_by (λ i. is_func i.desc) m.imports

abbrev pub callee_of_type : Module → ℕ → FuncType → Option (Callee Instr Val State)
callee_of_type m x t =
    if nat_lt x (imported_funcs m)
    then Some (Host (length t.params) (host_call m x))
    else option_map (λ body. Own (function t body)) (slice_get m.codes (x - imported_funcs m))

abbrev pub callee : Module → ℕ → Option (Callee Instr Val State)
callee m x = option_and_then (callee_of_type m x) (func_type m x)
