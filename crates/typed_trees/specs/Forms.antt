-- What each instruction of 3.0 takes and gives, in the order of chapter 3 of the standard, "Instructions". An instruction
-- that no rule types in its context is untyped.
use Rattle.std.specs.Prelude.{ℕ, Bool, true, false, if◌then◌else◌, ◌&&◌, ◌||◌, List, [], ◌∷◌, ◌++◌, nat_lt, nat_le, ◌^◌, Option, Some, None, option_map, option_and_then, slice_get}
use Rattle.std.specs.List.{list_all}
use Rattle.num_core.specs.Accesses.{load_width, load_bytes, store_width, store_bytes}
use Rattle.num_core.specs.Integers.{width_from, width_to}
use Rattle.lane_core.specs.declared.vector.Shape.{Shape}
use Rattle.lane_core.specs.Shapes.{lane_count, lane_bytes, extract_shape, lane_load_bytes}
use Rattle.wasm_ast.specs.declared.module.ty.Ty.{Ty}
use Rattle.wasm_ast.specs.declared.module.ty.Ty.TheVariants as types
use Rattle.wasm_ast.specs.declared.module.ty.FuncType.{FuncType}
use Rattle.wasm_ast.specs.declared.module.ty.Limits.{Limits}
use Rattle.wasm_ast.specs.declared.module.immediates.MemArg.{MemArg}
use Rattle.wasm_ast.specs.declared.module.immediates.Catch.{Catch}
use Rattle.wasm_ast.specs.declared.module.immediates.Catch.TheVariants as catches
use Rattle.wasm_ast.specs.declared.module.op.Op.{Op}
use Rattle.wasm_ast.specs.declared.module.op.Op.TheVariants as ops
use Rattle.wasm_ast.specs.declared.module.code.Instr.{Instr, out-Instr}
use Rattle.wasm_ast.specs.declared.module.code.Instr.TheOpen.{Instr-F}
use Rattle.wasm_ast.specs.Marking.{is_marked}
use Rattle.typed_trees.specs.declared.global_type.GlobalType.{GlobalType}
use Rattle.typing_kit.specs.declared.kind.Kind.TheVariants.{Every, Reference, Plain}
use Rattle.typing_kit.specs.declared.kind.Kind.{Kind}
use Rattle.typing_kit.specs.Form.{Form, Language, Untyped, Flat, Any, Select, Leaves, Table, Block, Choice}
use Rattle.typed_trees.specs.Contexts.{Context, func_type, tag_type, block_type, address_of, address_type, is_value_type, is_reference_type, is_plain_type}
use Rattle.typed_trees.specs.Matching.{matches, all_match}
use Rattle.typed_trees.specs.Operands.{int_type, lane_type}

-- the form of an instruction of this language
abbrev pub InstrForm : Type 0
InstrForm = Form Ty Instr

-- a form that asks for what is not there, or for a condition that does not hold
abbrev pub where_some : {X : Type 0} → Option X → (X → InstrForm) → InstrForm
where_some None f = Untyped
where_some (Some x) f = f x

abbrev pub where_true : Bool → InstrForm → InstrForm
where_true true f = f
where_true false f = Untyped

-- what branches to the labels of a list take, where each of them is in range
abbrev pub both_labels : Option (List Ty) → Option (List (List Ty)) → Option (List (List Ty))
both_labels (Some l) (Some more) = Some (l ∷ more)
both_labels _ _ = None

abbrev pub labels_at : List (List Ty) → List ℕ → Option (List (List Ty))
labels_at ls [] = Some []
labels_at ls (x ∷ xs) = both_labels (slice_get ls x) (labels_at ls xs)

-- "Parametric Instructions": the one type of a typed select
abbrev pub select_form : List Ty → InstrForm
select_form (t ∷ []) = where_true (is_value_type t) (Flat (t ∷ (t ∷ (types.I32 ∷ []))) (t ∷ []))
select_form _ = Untyped

-- "Control Instructions": blocks
abbrev pub block_form : FuncType → List Instr → InstrForm
block_form t code = Block t.results t.params t.results code

abbrev pub loop_form : FuncType → List Instr → InstrForm
loop_form t code = Block t.params t.params t.results code

abbrev pub if_form : FuncType → List Instr → List Instr → InstrForm
if_form t first second = Choice t.results t.params t.results first second

-- "Catch Clauses": the label, counted from outside the try_table, takes what the clause hands on
abbrev pub takes_all : List Ty → Option (List Ty) → Bool
takes_all ts (Some l) = all_match ts l
takes_all ts None = false

abbrev pub label_takes : List (List Ty) → ℕ → List Ty → Bool
label_takes ls x ts = takes_all ts (slice_get ls x)

abbrev pub payload_fits : Option FuncType → (List Ty → Bool) → Bool
payload_fits (Some t) p = p t.params
payload_fits None p = false

abbrev pub clause_fits : Context → List (List Ty) → Catch → Bool
clause_fits c ls (catches.Tag x l) = payload_fits (tag_type c x) (λ ts. label_takes ls l ts)
clause_fits c ls (catches.TagRef x l) = payload_fits (tag_type c x) (λ ts. label_takes ls l (ts ++ types.Exn ∷ []))
clause_fits c ls (catches.All l) = label_takes ls l []
clause_fits c ls (catches.AllRef l) = label_takes ls l (types.Exn ∷ [])

abbrev pub try_form : Context → List (List Ty) → List Catch → FuncType → List Instr → InstrForm
try_form c ls clauses t code = where_true (list_all (clause_fits c ls) clauses) (block_form t code)

-- a table whose references are functions
abbrev pub holds_functions : Option Ty → Bool
holds_functions (Some t) = matches t types.Func
holds_functions None = false

-- the type by which such a table is called
abbrev pub indirect_type : Context → ℕ → ℕ → Option FuncType
indirect_type c x table = if holds_functions (slice_get c.tables table) then slice_get c.types x else None

-- tail calls: the results of the function that is called are those of the caller
abbrev pub tail_form : Option (List Ty) → FuncType → List Ty → InstrForm
tail_form (Some returns) t takes = where_true (all_match t.results returns) (Leaves takes)
tail_form None t takes = Untyped

-- "Variable Instructions"
abbrev pub set_form : GlobalType → InstrForm
set_form g = where_true g.mutable (Flat (g.ty ∷ []) [])

-- "Table Instructions": copies between a table and a table or an element segment
abbrev pub copy_form : Ty → Ty → InstrForm
copy_form to from = where_true (matches from to) (Flat (types.I32 ∷ (types.I32 ∷ (types.I32 ∷ []))) [])

-- "Memory Instructions": the alignment is at most the natural one, and the offset an address of the memory
abbrev pub is_access : Limits → MemArg → ℕ → Bool
is_access l arg bytes = nat_le (2 ^ arg.align) bytes && (l.wide || nat_lt arg.offset (2 ^ 32))

-- the type of an address, where an access of so many bytes is one of the memory
abbrev pub access_at : MemArg → ℕ → Limits → Option Ty
access_at arg bytes l = if is_access l arg bytes then Some (address_type l) else None

abbrev pub accessed : Context → MemArg → ℕ → Option Ty
accessed c arg bytes = option_and_then (access_at arg bytes) (slice_get c.memories arg.memory)

-- the same of an access to one lane, where the shape has it
abbrev pub lane_accessed : Context → Shape → MemArg → ℕ → Option Ty
lane_accessed c shape arg lane = if nat_lt lane (lane_count shape) then accessed c arg (lane_bytes shape) else None

-- the type of an address of a memory
abbrev pub addressed : Context → ℕ → Option Ty
addressed c x = option_map address_type (slice_get c.memories x)

-- the length of a copy between memories has 64 bits only where both have addresses of 64 bits
abbrev pub memory_copy_form : Limits → Limits → InstrForm
memory_copy_form to from =
    Flat (address_type to ∷ (address_type from ∷ (address_of (to.wide && from.wide) ∷ []))) []

-- "Reference Instructions": ref.func names a function that occurs outside bodies
abbrev pub ref_func_form : Context → ℕ → InstrForm
ref_func_form c x =
    where_some (slice_get c.funcs x) (λ t. where_true (is_marked c.refs x) (Flat [] (types.Func ∷ [])))

-- "Reference Instructions", "Numeric Instructions" and "Vector Instructions"
abbrev pub op_form : Context → Op → InstrForm
op_form c (ops.RefNull t) = where_true (is_reference_type t) (Flat [] (t ∷ []))
op_form c ops.RefIsNull = Any Reference (types.I32 ∷ [])
op_form c (ops.RefFunc x) = ref_func_form c x
op_form c (ops.I32Const i) = Flat [] (types.I32 ∷ [])
op_form c (ops.I64Const i) = Flat [] (types.I64 ∷ [])
op_form c (ops.Eqz w) = Flat (int_type w ∷ []) (types.I32 ∷ [])
op_form c (ops.Compare w op) = Flat (int_type w ∷ (int_type w ∷ [])) (types.I32 ∷ [])
op_form c (ops.Unary w op) = Flat (int_type w ∷ []) (int_type w ∷ [])
op_form c (ops.Binary w op) = Flat (int_type w ∷ (int_type w ∷ [])) (int_type w ∷ [])
op_form c (ops.Convert op) = Flat (int_type (width_from op) ∷ []) (int_type (width_to op) ∷ [])
op_form c (ops.V128Const v) = Flat [] (types.V128 ∷ [])
op_form c (ops.Shuffle places) =
    where_true (list_all (λ place. nat_lt place 32) places) (Flat (types.V128 ∷ (types.V128 ∷ [])) (types.V128 ∷ []))
op_form c (ops.Splat shape) = Flat (lane_type shape ∷ []) (types.V128 ∷ [])
op_form c (ops.Extract op lane) =
    where_true (nat_lt lane (lane_count (extract_shape op))) (Flat (types.V128 ∷ []) (lane_type (extract_shape op) ∷ []))
op_form c (ops.Replace shape lane) =
    where_true (nat_lt lane (lane_count shape)) (Flat (types.V128 ∷ (lane_type shape ∷ [])) (types.V128 ∷ []))
op_form c ops.Bitselect = Flat (types.V128 ∷ (types.V128 ∷ (types.V128 ∷ []))) (types.V128 ∷ [])
op_form c (ops.Lanes1 op) = Flat (types.V128 ∷ []) (types.V128 ∷ [])
op_form c (ops.Lanes2 op) = Flat (types.V128 ∷ (types.V128 ∷ [])) (types.V128 ∷ [])
op_form c (ops.ShiftLanes op) = Flat (types.V128 ∷ (types.I32 ∷ [])) (types.V128 ∷ [])
op_form c (ops.TestLanes op) = Flat (types.V128 ∷ []) (types.I32 ∷ [])

-- the form of an instruction among these labels, the innermost first
abbrev pub layer_form : Context → List (List Ty) → Instr-F Instr → InstrForm
-- "Parametric Instructions"
layer_form c ls Instr-F.Nop = Flat [] []
layer_form c ls Instr-F.Unreachable = Leaves []
layer_form c ls Instr-F.Drop = Any Every []
layer_form c ls Instr-F.Select = Select
layer_form c ls (Instr-F.SelectTyped ts) = select_form ts
-- "Control Instructions"
layer_form c ls (Instr-F.Block type code) = where_some (block_type c type) (λ t. block_form t code)
layer_form c ls (Instr-F.Loop type code) = where_some (block_type c type) (λ t. loop_form t code)
layer_form c ls (Instr-F.If type first second) = where_some (block_type c type) (λ t. if_form t first second)
layer_form c ls (Instr-F.Br l) = where_some (slice_get ls l) (λ ts. Leaves ts)
layer_form c ls (Instr-F.BrIf l) = where_some (slice_get ls l) (λ ts. Flat (ts ++ types.I32 ∷ []) ts)
layer_form c ls (Instr-F.BrTable xs last) =
    where_some (slice_get ls last) (λ l. where_some (labels_at ls xs) (λ others. Table l others))
layer_form c ls (Instr-F.Call x) = where_some (func_type c x) (λ t. Flat t.params t.results)
layer_form c ls (Instr-F.CallIndirect x table) =
    where_some (indirect_type c x table) (λ t. Flat (t.params ++ types.I32 ∷ []) t.results)
layer_form c ls Instr-F.Return = where_some c.returns (λ ts. Leaves ts)
layer_form c ls (Instr-F.ReturnCall x) = where_some (func_type c x) (λ t. tail_form c.returns t t.params)
layer_form c ls (Instr-F.ReturnCallIndirect x table) =
    where_some (indirect_type c x table) (λ t. tail_form c.returns t (t.params ++ types.I32 ∷ []))
layer_form c ls (Instr-F.Throw x) = where_some (tag_type c x) (λ t. Leaves t.params)
layer_form c ls Instr-F.ThrowRef = Leaves (types.Exn ∷ [])
layer_form c ls (Instr-F.TryTable type clauses code) =
    where_some (block_type c type) (λ t. try_form c ls clauses t code)
-- "Variable Instructions"
layer_form c ls (Instr-F.LocalGet x) = where_some (slice_get c.locals x) (λ t. Flat [] (t ∷ []))
layer_form c ls (Instr-F.LocalSet x) = where_some (slice_get c.locals x) (λ t. Flat (t ∷ []) [])
layer_form c ls (Instr-F.LocalTee x) = where_some (slice_get c.locals x) (λ t. Flat (t ∷ []) (t ∷ []))
layer_form c ls (Instr-F.GlobalGet x) = where_some (slice_get c.globals x) (λ g. Flat [] (g.ty ∷ []))
layer_form c ls (Instr-F.GlobalSet x) = where_some (slice_get c.globals x) set_form
-- "Table Instructions"
layer_form c ls (Instr-F.TableGet x) = where_some (slice_get c.tables x) (λ t. Flat (types.I32 ∷ []) (t ∷ []))
layer_form c ls (Instr-F.TableSet x) = where_some (slice_get c.tables x) (λ t. Flat (types.I32 ∷ (t ∷ [])) [])
layer_form c ls (Instr-F.TableSize x) = where_some (slice_get c.tables x) (λ t. Flat [] (types.I32 ∷ []))
layer_form c ls (Instr-F.TableGrow x) =
    where_some (slice_get c.tables x) (λ t. Flat (t ∷ (types.I32 ∷ [])) (types.I32 ∷ []))
layer_form c ls (Instr-F.TableFill x) =
    where_some (slice_get c.tables x) (λ t. Flat (types.I32 ∷ (t ∷ (types.I32 ∷ []))) [])
layer_form c ls (Instr-F.TableCopy to from) =
    where_some (slice_get c.tables to) (λ t. where_some (slice_get c.tables from) (λ s. copy_form t s))
layer_form c ls (Instr-F.TableInit segment x) =
    where_some (slice_get c.tables x) (λ t. where_some (slice_get c.elems segment) (λ s. copy_form t s))
layer_form c ls (Instr-F.ElemDrop segment) = where_some (slice_get c.elems segment) (λ s. Flat [] [])
-- "Memory Instructions"
layer_form c ls (Instr-F.Load op arg) =
    where_some (accessed c arg (load_bytes op)) (λ address. Flat (address ∷ []) (int_type (load_width op) ∷ []))
layer_form c ls (Instr-F.Store op arg) =
    where_some (accessed c arg (store_bytes op)) (λ address. Flat (address ∷ (int_type (store_width op) ∷ [])) [])
layer_form c ls (Instr-F.LoadVector op arg) =
    where_some (accessed c arg (lane_load_bytes op)) (λ address. Flat (address ∷ []) (types.V128 ∷ []))
layer_form c ls (Instr-F.StoreVector arg) = where_some (accessed c arg 16) (λ address. Flat (address ∷ (types.V128 ∷ [])) [])
layer_form c ls (Instr-F.LoadLane shape arg lane) =
    where_some (lane_accessed c shape arg lane) (λ address. Flat (address ∷ (types.V128 ∷ [])) (types.V128 ∷ []))
layer_form c ls (Instr-F.StoreLane shape arg lane) =
    where_some (lane_accessed c shape arg lane) (λ address. Flat (address ∷ (types.V128 ∷ [])) [])
layer_form c ls (Instr-F.MemorySize x) = where_some (addressed c x) (λ address. Flat [] (address ∷ []))
layer_form c ls (Instr-F.MemoryGrow x) = where_some (addressed c x) (λ address. Flat (address ∷ []) (address ∷ []))
layer_form c ls (Instr-F.MemoryFill x) =
    where_some (slice_get c.memories x) (λ l. Flat (address_type l ∷ (types.I32 ∷ (address_type l ∷ []))) [])
layer_form c ls (Instr-F.MemoryCopy to from) =
    where_some (slice_get c.memories to) (λ t. where_some (slice_get c.memories from) (λ s. memory_copy_form t s))
layer_form c ls (Instr-F.MemoryInit segment x) =
    where_some (slice_get c.memories x) (λ l. where_true (nat_lt segment c.datas) (Flat (address_type l ∷ (types.I32 ∷ (types.I32 ∷ []))) []))
layer_form c ls (Instr-F.DataDrop segment) = where_true (nat_lt segment c.datas) (Flat [] [])
-- "Reference Instructions", "Numeric Instructions" and "Vector Instructions"
layer_form c ls (Instr-F.Pure op) = op_form c op
-- there is no rule for an instruction on floats
layer_form c ls (Instr-F.Float code immediates) = Untyped

abbrev pub form : Context → List (List Ty) → Instr → InstrForm
form c ls i = layer_form c ls (out-Instr i)

-- which types an operand of a kind may have
abbrev pub is_of_kind : Kind → Ty → Bool
is_of_kind Every t = true
is_of_kind Reference t = is_reference_type t
is_of_kind Plain t = is_plain_type t

-- the language of code in this context
abbrev pub language : Context → Language Ty Instr
language c = record { sub = matches; condition = types.I32; of_kind = is_of_kind; form = form c }
