-- Code of 3.0 as code of 1.0, instruction by instruction. What 1.0 does not have becomes something that is written there;
-- a test says which instructions both have.
use Rattle.std.specs.Prelude.{Bool, true, false, nat_eq, List, [], ◌∷◌, flat_map}
use Rattle.num_core.specs.declared.operators.Conv.{Conv}
use Rattle.num_core.specs.declared.operators.Conv.TheVariants as conversions
use Rattle.wasm_ast.specs.declared.module.ty.Ty.{Ty}
use Rattle.wasm_ast.specs.declared.module.ty.Ty.TheVariants as types
use Rattle.wasm_ast.specs.declared.module.ty.BlockType.{BlockType}
use Rattle.wasm_ast.specs.declared.module.ty.BlockType.TheVariants as blocks
use Rattle.wasm_ast.specs.declared.module.op.Op.{Op}
use Rattle.wasm_ast.specs.declared.module.op.Op.TheVariants as ops
use Rattle.wasm_ast.specs.declared.module.immediates.MemArg.{MemArg}
use Rattle.wasm_ast.specs.declared.module.code.Instr.{Instr}
use Rattle.wasm_ast.specs.declared.module.code.Instr.TheOpen.{Instr-F}
use Rattle.wasm_ast.specs.declared.module.code.Instr.TheFolds.{fold-Instr}
use Rattle.core1_ast.specs.declared.module.ty.Ty1.{Ty1}
use Rattle.core1_ast.specs.declared.module.ty.Ty1.TheVariants as types1
use Rattle.core1_ast.specs.declared.module.ty.BlockType1.{BlockType1}
use Rattle.core1_ast.specs.declared.module.ty.BlockType1.TheVariants as blocks1
use Rattle.core1_ast.specs.declared.module.op.Conv1.{Conv1}
use Rattle.core1_ast.specs.declared.module.op.Conv1.TheVariants as conversions1
use Rattle.core1_ast.specs.declared.module.op.Op1.{Op1}
use Rattle.core1_ast.specs.declared.module.op.Op1.TheVariants as ops1
use Rattle.core1_ast.specs.declared.module.immediates.MemArg1.{MemArg1}
use Rattle.core1_ast.specs.declared.module.code.Instr1.{Instr1, roll-Instr1}
use Rattle.core1_ast.specs.declared.module.code.Instr1.TheOpen.{Instr1-F}

-- value types; a vector is written as i64, and a reference as i32
abbrev pub cross_type : Ty → Ty1
cross_type types.I64 = types1.I64
cross_type types.F32 = types1.F32
cross_type types.F64 = types1.F64
cross_type types.V128 = types1.I64
cross_type _ = types1.I32

-- an integer type
abbrev pub is_integer : Ty → Bool
is_integer types.I32 = true
is_integer types.I64 = true
is_integer _ = false

-- block types; one that is an index is written as none
abbrev pub cross_block : BlockType → BlockType1
cross_block (blocks.One t) = blocks1.One (cross_type t)
cross_block _ = blocks1.Empty

abbrev pub is_block : BlockType → Bool
is_block (blocks.Index x) = false
is_block _ = true

-- conversions; one that extends a sign inside its width is written as a wrap
abbrev pub cross_conversion : Conv → Conv1
cross_conversion conversions.Ext32S = conversions1.Ext32S
cross_conversion conversions.Ext32U = conversions1.Ext32U
cross_conversion _ = conversions1.Wrap

abbrev pub is_conversion : Conv → Bool
is_conversion conversions.Wrap = true
is_conversion conversions.Ext32S = true
is_conversion conversions.Ext32U = true
is_conversion _ = false

-- operators; one on vectors or references is written as a constant
abbrev pub cross_op : Op → Op1
cross_op (ops.I32Const i) = ops1.I32Const i
cross_op (ops.I64Const i) = ops1.I64Const i
cross_op (ops.Eqz w) = ops1.Eqz w
cross_op (ops.Compare w op) = ops1.Compare w op
cross_op (ops.Unary w op) = ops1.Unary w op
cross_op (ops.Binary w op) = ops1.Binary w op
cross_op (ops.Convert op) = ops1.Convert (cross_conversion op)
cross_op _ = ops1.I32Const 0

abbrev pub is_op : Op → Bool
is_op (ops.I32Const i) = true
is_op (ops.I64Const i) = true
is_op (ops.Eqz w) = true
is_op (ops.Compare w op) = true
is_op (ops.Unary w op) = true
is_op (ops.Binary w op) = true
is_op (ops.Convert op) = is_conversion op
is_op _ = false

-- how a load or a store finds its bytes
abbrev pub cross_argument : MemArg → MemArg1
cross_argument arg = record { align = arg.align; offset = arg.offset }

-- code inside
abbrev pub bodies : List (Unit {0} → List Instr1) → List Instr1
bodies parts = flat_map (λ part. part tt) parts

-- one layer, whose bodies are written already
abbrev pub cross_layer : Instr-F (Unit {0} → List Instr1) → Instr1-F Instr1
cross_layer Instr-F.Nop = Instr1-F.Nop
cross_layer (Instr-F.Block t code) = Instr1-F.Block (cross_block t) (bodies code)
cross_layer (Instr-F.Loop t code) = Instr1-F.Loop (cross_block t) (bodies code)
cross_layer (Instr-F.If t first second) = Instr1-F.If (cross_block t) (bodies first) (bodies second)
cross_layer (Instr-F.Br l) = Instr1-F.Br l
cross_layer (Instr-F.BrIf l) = Instr1-F.BrIf l
cross_layer (Instr-F.BrTable labels last) = Instr1-F.BrTable labels last
cross_layer Instr-F.Return = Instr1-F.Return
cross_layer (Instr-F.Call x) = Instr1-F.Call x
cross_layer (Instr-F.CallIndirect t table) = Instr1-F.CallIndirect t
cross_layer Instr-F.Drop = Instr1-F.Drop
cross_layer Instr-F.Select = Instr1-F.Select
cross_layer (Instr-F.SelectTyped ts) = Instr1-F.Select
cross_layer (Instr-F.LocalGet x) = Instr1-F.LocalGet x
cross_layer (Instr-F.LocalSet x) = Instr1-F.LocalSet x
cross_layer (Instr-F.LocalTee x) = Instr1-F.LocalTee x
cross_layer (Instr-F.GlobalGet x) = Instr1-F.GlobalGet x
cross_layer (Instr-F.GlobalSet x) = Instr1-F.GlobalSet x
cross_layer (Instr-F.Load op arg) = Instr1-F.Load op (cross_argument arg)
cross_layer (Instr-F.Store op arg) = Instr1-F.Store op (cross_argument arg)
cross_layer (Instr-F.MemorySize x) = Instr1-F.MemorySize
cross_layer (Instr-F.MemoryGrow x) = Instr1-F.MemoryGrow
cross_layer (Instr-F.Pure op) = Instr1-F.Pure (cross_op op)
cross_layer _ = Instr1-F.Unreachable

abbrev pub cross_step : Instr-F (Unit {0} → List Instr1) → Unit {0} → List Instr1
cross_step l x = roll-Instr1 (cross_layer l) ∷ []

-- an instruction, and code
abbrev pub cross_instr : Instr → Unit {0} → List Instr1
cross_instr i = fold-Instr (Unit {0} → List Instr1) cross_step i

abbrev pub cross_code : List Instr → List Instr1
cross_code code = flat_map (λ i. cross_instr i tt) code

-- whether an instruction is one that 1.0 has, or a typed select: its bodies aside
abbrev pub crosses : (X : Type 0) → Instr-F X → Bool
crosses X Instr-F.Unreachable = true
crosses X Instr-F.Nop = true
crosses X (Instr-F.Block t code) = is_block t
crosses X (Instr-F.Loop t code) = is_block t
crosses X (Instr-F.If t first second) = is_block t
crosses X (Instr-F.Br l) = true
crosses X (Instr-F.BrIf l) = true
crosses X (Instr-F.BrTable labels last) = true
crosses X Instr-F.Return = true
crosses X (Instr-F.Call x) = true
crosses X (Instr-F.CallIndirect t table) = nat_eq table 0
crosses X Instr-F.Drop = true
crosses X Instr-F.Select = true
crosses X (Instr-F.SelectTyped ts) = true
crosses X (Instr-F.LocalGet x) = true
crosses X (Instr-F.LocalSet x) = true
crosses X (Instr-F.LocalTee x) = true
crosses X (Instr-F.GlobalGet x) = true
crosses X (Instr-F.GlobalSet x) = true
crosses X (Instr-F.Load op arg) = nat_eq arg.memory 0
crosses X (Instr-F.Store op arg) = nat_eq arg.memory 0
crosses X (Instr-F.MemorySize x) = nat_eq x 0
crosses X (Instr-F.MemoryGrow x) = nat_eq x 0
crosses X (Instr-F.Pure op) = is_op op
crosses X _ = false
