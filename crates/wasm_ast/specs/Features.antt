-- Which instructions and types show which feature: the profile's own table of features.
use Rattle.std.specs.Prelude.{Bool, true, false, not, ◌||◌, List, [], ◌∷◌}
use Rattle.std.specs.List.{list_any}
use Rattle.num_core.specs.declared.operators.Conv.TheVariants.{S8of32, S16of32, S8of64, S16of64, S32of64}
use Rattle.wasm_ast.specs.declared.module.ty.Ty.{Ty}
use Rattle.wasm_ast.specs.declared.module.ty.Ty.TheVariants as types
use Rattle.wasm_ast.specs.declared.module.ty.BlockType.{BlockType}
use Rattle.wasm_ast.specs.declared.module.ty.BlockType.TheVariants.{Empty, One, Index}
use Rattle.wasm_ast.specs.declared.module.op.Op.{Op}
use Rattle.wasm_ast.specs.declared.module.op.Op.TheVariants as ops
use Rattle.wasm_ast.specs.declared.module.code.Instr.TheOpen.{Instr-F}
use Rattle.wasm_ast.specs.declared.features.kind.Feature.{Feature}
use Rattle.wasm_ast.specs.declared.features.kind.Feature.TheVariants as features
use Rattle.wasm_ast.specs.Occurrence.{Head}
use Rattle.wasm_ast.specs.LateLanes.{is_late1, is_late2, is_late_load}

-- a value type that shows a feature
abbrev pub is_float : Ty → Bool
is_float types.F32 = true
is_float types.F64 = true
is_float _ = false

abbrev pub is_vector : Ty → Bool
is_vector types.V128 = true
is_vector _ = false

abbrev pub is_reference : Ty → Bool
is_reference types.Func = true
is_reference types.Extern = true
is_reference types.Exn = true
is_reference _ = false

abbrev pub is_plain_reference : Ty → Bool
is_plain_reference types.Func = true
is_plain_reference types.Extern = true
is_plain_reference _ = false

abbrev pub is_exnref : Ty → Bool
is_exnref types.Exn = true
is_exnref _ = false

unfoldable pub type_shows : Feature → Ty → Bool
type_shows features.Floats t = is_float t
type_shows features.Simd t = is_vector t
type_shows features.Refs t = is_plain_reference t
type_shows features.Exceptions t = is_exnref t
type_shows _ t = false

-- the value types that an instruction names
abbrev pub block_types : BlockType → List Ty
block_types Empty = []
block_types (One t) = t ∷ []
block_types (Index x) = []

abbrev pub types_named : Head → List Ty
types_named (Instr-F.Block type code) = block_types type
types_named (Instr-F.Loop type code) = block_types type
types_named (Instr-F.If type first second) = block_types type
types_named (Instr-F.TryTable type clauses code) = block_types type
types_named (Instr-F.SelectTyped ts) = ts
types_named (Instr-F.Pure (ops.RefNull t)) = t ∷ []
types_named _ = []

-- an instruction on floats
abbrev pub is_float_leaf : Head → Bool
is_float_leaf (Instr-F.Float code immediates) = true
is_float_leaf _ = false

-- i32.extend8_s, i32.extend16_s, i64.extend8_s, i64.extend16_s, i64.extend32_s
abbrev pub extends_sign : Op → Bool
extends_sign (ops.Convert S8of32) = true
extends_sign (ops.Convert S16of32) = true
extends_sign (ops.Convert S8of64) = true
extends_sign (ops.Convert S16of64) = true
extends_sign (ops.Convert S32of64) = true
extends_sign _ = false

abbrev pub is_sign : Head → Bool
is_sign (Instr-F.Pure op) = extends_sign op
is_sign _ = false

-- a block type by index
abbrev pub is_index : BlockType → Bool
is_index (Index x) = true
is_index _ = false

abbrev pub is_indexed : Head → Bool
is_indexed (Instr-F.Block type code) = is_index type
is_indexed (Instr-F.Loop type code) = is_index type
is_indexed (Instr-F.If type first second) = is_index type
is_indexed (Instr-F.TryTable type clauses code) = is_index type
is_indexed _ = false

-- a select with types
abbrev pub is_typed_select : Head → Bool
is_typed_select (Instr-F.SelectTyped ts) = true
is_typed_select _ = false

-- vector instructions, and among them those that are built late
abbrev pub is_early_op : Op → Bool
is_early_op (ops.V128Const v) = true
is_early_op (ops.Shuffle places) = true
is_early_op (ops.Splat shape) = true
is_early_op (ops.Extract op lane) = true
is_early_op (ops.Replace shape lane) = true
is_early_op ops.Bitselect = true
is_early_op (ops.Lanes1 op) = not (is_late1 op)
is_early_op (ops.Lanes2 op) = not (is_late2 op)
is_early_op (ops.ShiftLanes op) = true
is_early_op (ops.TestLanes op) = true
is_early_op _ = false

abbrev pub is_early_lanes : Head → Bool
is_early_lanes (Instr-F.LoadVector op at) = not (is_late_load op)
is_early_lanes (Instr-F.StoreVector at) = true
is_early_lanes (Instr-F.Pure op) = is_early_op op
is_early_lanes _ = false

abbrev pub is_late_op : Op → Bool
is_late_op (ops.Lanes1 op) = is_late1 op
is_late_op (ops.Lanes2 op) = is_late2 op
is_late_op _ = false

abbrev pub is_late_lanes : Head → Bool
is_late_lanes (Instr-F.LoadVector op at) = is_late_load op
is_late_lanes (Instr-F.LoadLane shape at lane) = true
is_late_lanes (Instr-F.StoreLane shape at lane) = true
is_late_lanes (Instr-F.Pure op) = is_late_op op
is_late_lanes _ = false

-- return_call, return_call_indirect
abbrev pub is_tail_call : Head → Bool
is_tail_call (Instr-F.ReturnCall f) = true
is_tail_call (Instr-F.ReturnCallIndirect t x) = true
is_tail_call _ = false

-- ref.func
abbrev pub is_ref_func : Head → Bool
is_ref_func (Instr-F.Pure (ops.RefFunc f)) = true
is_ref_func _ = false

-- table.get, set, init, copy, grow, size and fill, and elem.drop
abbrev pub is_on_tables : Head → Bool
is_on_tables (Instr-F.TableGet x) = true
is_on_tables (Instr-F.TableSet x) = true
is_on_tables (Instr-F.TableInit s x) = true
is_on_tables (Instr-F.ElemDrop s) = true
is_on_tables (Instr-F.TableCopy to from) = true
is_on_tables (Instr-F.TableGrow x) = true
is_on_tables (Instr-F.TableSize x) = true
is_on_tables (Instr-F.TableFill x) = true
is_on_tables _ = false

-- throw, throw_ref, try_table
abbrev pub is_on_exceptions : Head → Bool
is_on_exceptions (Instr-F.Throw x) = true
is_on_exceptions Instr-F.ThrowRef = true
is_on_exceptions (Instr-F.TryTable type clauses code) = true
is_on_exceptions _ = false

-- memory.init, memory.copy, memory.fill, data.drop
abbrev pub is_bulk : Head → Bool
is_bulk (Instr-F.MemoryInit s x) = true
is_bulk (Instr-F.DataDrop s) = true
is_bulk (Instr-F.MemoryCopy to from) = true
is_bulk (Instr-F.MemoryFill x) = true
is_bulk _ = false

-- an instruction that shows a feature, whatever its types are
abbrev pub shows_itself : Feature → Head → Bool
shows_itself features.Floats i = is_float_leaf i
shows_itself features.Sign i = is_sign i
shows_itself features.Multi i = is_indexed i
shows_itself features.TypedSelect i = is_typed_select i
shows_itself features.Simd i = is_early_lanes i
shows_itself features.LateLanes i = is_late_lanes i
shows_itself features.Tail i = is_tail_call i
shows_itself features.Refs i = is_ref_func i
shows_itself features.Tables i = is_on_tables i
shows_itself features.Exceptions i = is_on_exceptions i
shows_itself features.Bulk i = is_bulk i
shows_itself _ i = false

-- an instruction that shows a feature, by itself or by a type that it names
abbrev pub shows : Feature → Head → Bool
shows f i = shows_itself f i || list_any (type_shows f) (types_named i)
