-- Types in the binary format: chapter 5 of the standard, "Heap Types", "Reference Types", "Value Types" and "Block Types".
use Rattle.std.specs.Prelude.{ℕ, ◌^◌, ◌==◌, ◌&&◌, nat_lt, nat_le}
use Rattle.wasm_ast.specs.declared.module.ty.Ty.{Ty}
use Rattle.wasm_ast.specs.declared.module.ty.Ty.TheVariants.{I32, I64, F32, F64, V128, Func, Extern, Exn}
use Rattle.wasm_ast.specs.declared.module.ty.BlockType.{BlockType}
use Rattle.wasm_ast.specs.declared.module.ty.BlockType.TheVariants.{Empty, One, Index}
use Rattle.grammar_kit.specs.Form.{Form, never, always, byte, when, ◌>>=◌}
use Rattle.wasm_frame.specs.declared.leb128.Sign.TheVariants.{Signed}
use Rattle.wasm_frame.specs.Leb128.{integer_after}

-- what a reference refers to, by its byte
unfoldable pub heap_type_at : ℕ → Form Ty
heap_type_at b =
    when (b == 0x70) (always Func)
    (when (b == 0x6F) (always Extern)
    (when (b == 0x69) (always Exn) never))

-- "Heap Types"
unfoldable pub heap_type : Form Ty
heap_type = byte >>= heap_type_at

-- a reference type whose first byte is b: the short form, or 63 and what is referred to
unfoldable pub ref_type_at : ℕ → Form Ty
ref_type_at b = when (b == 0x63) heap_type (heap_type_at b)

-- "Reference Types"
unfoldable pub ref_type : Form Ty
ref_type = byte >>= ref_type_at

-- a value type whose first byte is b
unfoldable pub value_type_at : ℕ → Form Ty
value_type_at b =
    when (b == 0x7F) (always I32)
    (when (b == 0x7E) (always I64)
    (when (b == 0x7D) (always F32)
    (when (b == 0x7C) (always F64)
    (when (b == 0x7B) (always V128) (ref_type_at b)))))

-- "Value Types"
unfoldable pub value_type : Form Ty
value_type = byte >>= value_type_at

-- an index whose first byte is b: a signed number of 33 bits that is not negative
unfoldable pub type_index_at : ℕ → Form BlockType
type_index_at b = integer_after b Signed 33 >>= λ x. when (nat_lt x (2 ^ 32)) (always (Index x)) never

-- "Block Types": 40, or a value type, or the index of a function type. A first byte from 40 to 7F begins no index, since
-- it would be a whole negative number
unfoldable pub block_type_at : ℕ → Form BlockType
block_type_at b =
    when (b == 0x40) (always Empty)
    (when (nat_le 0x40 b && nat_lt b 0x80) (value_type_at b >>= λ t. always (One t)) (type_index_at b))

unfoldable pub block_type : Form BlockType
block_type = byte >>= block_type_at
