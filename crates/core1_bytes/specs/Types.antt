-- How types are spelled: chapter 5 of the 1.0 standard, "Types".
use Rattle.std.specs.Prelude.{ℕ, Bool, true, false, Option, Some, None, option_map, ◌==◌, if◌then◌else◌}
use Rattle.core1_ast.specs.declared.module.ty.Ty1.{Ty1}
use Rattle.core1_ast.specs.declared.module.ty.Ty1.TheVariants as types
use Rattle.core1_ast.specs.declared.module.ty.BlockType1.{BlockType1}
use Rattle.core1_ast.specs.declared.module.ty.BlockType1.TheVariants as blocks
use Rattle.core1_ast.specs.declared.module.ty.FuncType1.{FuncType1}
use Rattle.core1_ast.specs.declared.module.ty.Limits1.{Limits1}
use Rattle.core1_ast.specs.Spaces.{GlobalType}
use Rattle.grammar_kit.specs.Form.{Form, never, always, byte, when, ◌>>=◌, vector}
use Rattle.wasm_frame.specs.Leb128.{u32}
use Rattle.grammar_kit.specs.Choice.{given}

-- "Value Types": the type with this byte
abbrev pub type_of : ℕ → Option Ty1
type_of k =
    if k == 0x7F
    then Some types.I32
    else (if k == 0x7E then Some types.I64 else (if k == 0x7D then Some types.F32 else (if k == 0x7C then Some types.F64 else None)))

unfoldable pub value_type : Form Ty1
value_type = byte >>= λ k. given (type_of k)

-- "Result Types": no result or one, the type of a block
unfoldable pub block_type : Form BlockType1
block_type = byte >>= λ k. when (k == 0x40) (always blocks.Empty) (given (option_map blocks.One (type_of k)))

-- "Function Types"
unfoldable pub func_type : Form FuncType1
func_type = byte >>= λ k. when (k == 0x60)
    (vector u32 value_type >>= λ params. vector u32 value_type >>= λ results. always (record { params = params; results = results }))
    never

-- "Limits"
unfoldable pub limits : Form Limits1
limits = byte >>= λ k.
    when (k == 0x00) (u32 >>= λ n. always (record { min = n; max = None }))
    (when (k == 0x01) (u32 >>= λ n. u32 >>= λ m. always (record { min = n; max = Some m })) never)

-- "Table Types": functions are the only elements
unfoldable pub table_type : Form Limits1
table_type = byte >>= λ k. when (k == 0x70) limits never

-- "Global Types"
unfoldable pub mutability : Form Bool
mutability = byte >>= λ k. when (k == 0x00) (always false) (when (k == 0x01) (always true) never)

unfoldable pub global_type : Form GlobalType
global_type = value_type >>= λ t. mutability >>= λ m. always (record { type = t; mutable = m })
