-- Single instructions by their opcode, and by the number behind the prefixes FC and FD: chapter 5 of the standard,
-- "Instructions". Those with the same immediates stand together, and what holds code is in `Tokens`.
use Rattle.std.specs.Prelude.{ℕ, ◌==◌, ◌||◌, Bool, if◌then◌else◌, Option, Some, None, option_map}
use Rattle.std.specs.Option.{option_or}
use Rattle.std.specs.Int.{from_le_bytes, w32, w64}
use Rattle.opcode_table.specs.Operators.{operator_of}
use Rattle.opcode_table.specs.Accesses.{load_of, store_of}
use Rattle.opcode_table.specs.Floats.{is_float_access, is_float_operator, between}
use Rattle.wasm_ast.specs.declared.module.immediates.MemArg.{MemArg}
use Rattle.wasm_ast.specs.declared.module.immediates.FloatCode.TheVariants as floats
use Rattle.wasm_ast.specs.declared.module.immediates.FloatImmediates.TheVariants as with
use Rattle.wasm_ast.specs.declared.module.op.Op.TheVariants as ops
use Rattle.wasm_ast.specs.declared.module.code.Instr.{Instr}
use Rattle.wasm_ast.specs.declared.module.code.Instr.TheVariants as instrs
use Rattle.grammar_kit.specs.Form.{Form, never, always, raw, when, ◌>>=◌, vector}
use Rattle.wasm_frame.specs.Leb128.{u32, s32, s64}
use Rattle.code_new.specs.Types.{heap_type, value_type}
use Rattle.grammar_kit.specs.Choice.{given}
use Rattle.code_new.specs.Immediates.{mem_arg}
use Rattle.code_new.specs.Operators.{op_of}

-- ---- without immediates

-- "Control Instructions" and "Parametric Instructions"
unfoldable pub plain_of : ℕ → Option Instr
plain_of b =
    if b == 0x00 then Some instrs.Unreachable
    else (if b == 0x01 then Some instrs.Nop
    else (if b == 0x0A then Some instrs.ThrowRef
    else (if b == 0x0F then Some instrs.Return
    else (if b == 0x1A then Some instrs.Drop
    else (if b == 0x1B then Some instrs.Select
    else None)))))

-- "Numeric Instructions"
unfoldable pub float_operator : ℕ → Option Instr
float_operator b = if is_float_operator b then Some (instrs.Float (floats.Plain b) with.None) else None

unfoldable pub numeric_of : ℕ → Option Instr
numeric_of b = option_or (option_map (λ op. instrs.Pure (op_of op)) (operator_of b)) (float_operator b)

-- ---- an index behind the opcode

-- "Control Instructions"
unfoldable pub jump_of : ℕ → ℕ → Option Instr
jump_of b x =
    if b == 0x08 then Some (instrs.Throw x)
    else (if b == 0x0C then Some (instrs.Br x)
    else (if b == 0x0D then Some (instrs.BrIf x)
    else (if b == 0x10 then Some (instrs.Call x)
    else (if b == 0x12 then Some (instrs.ReturnCall x)
    else None))))

-- "Variable Instructions" and "Table Instructions"
unfoldable pub variable_of : ℕ → ℕ → Option Instr
variable_of b x =
    if b == 0x20 then Some (instrs.LocalGet x)
    else (if b == 0x21 then Some (instrs.LocalSet x)
    else (if b == 0x22 then Some (instrs.LocalTee x)
    else (if b == 0x23 then Some (instrs.GlobalGet x)
    else (if b == 0x24 then Some (instrs.GlobalSet x)
    else (if b == 0x25 then Some (instrs.TableGet x)
    else (if b == 0x26 then Some (instrs.TableSet x)
    else None))))))

-- behind FC: "Table Instructions" and "Memory Instructions"
unfoldable pub bulk_of : ℕ → ℕ → Option Instr
bulk_of n x =
    if n == 9 then Some (instrs.DataDrop x)
    else (if n == 11 then Some (instrs.MemoryFill x)
    else (if n == 13 then Some (instrs.ElemDrop x)
    else (if n == 15 then Some (instrs.TableGrow x)
    else (if n == 16 then Some (instrs.TableSize x)
    else (if n == 17 then Some (instrs.TableFill x)
    else None)))))

-- an index, of these instructions
abbrev pub indexed : (ℕ → Option Instr) → Form Instr
indexed make = u32 >>= λ x. given (make x)

-- ---- two indices behind the opcode

-- "Control Instructions": the type comes first
unfoldable pub indirect_of : ℕ → ℕ → ℕ → Option Instr
indirect_of b x y =
    if b == 0x11 then Some (instrs.CallIndirect x y)
    else (if b == 0x13 then Some (instrs.ReturnCallIndirect x y)
    else None)

-- behind FC: the segment comes first, and where it is copied to
unfoldable pub transfer_of : ℕ → ℕ → ℕ → Option Instr
transfer_of n x y =
    if n == 8 then Some (instrs.MemoryInit x y)
    else (if n == 10 then Some (instrs.MemoryCopy x y)
    else (if n == 12 then Some (instrs.TableInit x y)
    else (if n == 14 then Some (instrs.TableCopy x y)
    else None)))

-- two indices, of these instructions
abbrev pub twice_indexed : (ℕ → ℕ → Option Instr) → Form Instr
twice_indexed make = u32 >>= λ x. u32 >>= λ y. given (make x y)

-- ---- lists behind the opcode

-- "Control Instructions": the labels, and the last one
unfoldable pub br_table : Form Instr
br_table = vector u32 u32 >>= λ labels. u32 >>= λ last. always (instrs.BrTable labels last)

-- "Parametric Instructions"
unfoldable pub select_typed : Form Instr
select_typed = vector u32 value_type >>= λ types. always (instrs.SelectTyped types)

-- ---- "Memory Instructions"

unfoldable pub access_of : ℕ → MemArg → Option Instr
access_of b at =
    option_or (option_map (λ op. instrs.Load op at) (load_of b))
    (option_or (option_map (λ op. instrs.Store op at) (store_of b))
    (if is_float_access b then Some (instrs.Float (floats.Plain b) (with.Memory at)) else None))

unfoldable pub access : ℕ → Form Instr
access b = mem_arg >>= λ at. given (access_of b at)

-- ---- "Memory Instructions" with a memory alone, and the constants of "Numeric Instructions"

unfoldable pub size_of : ℕ → ℕ → Option Instr
size_of b x = if b == 0x3F then Some (instrs.MemorySize x) else (if b == 0x40 then Some (instrs.MemoryGrow x) else None)

-- a constant is its bits; that of a float is spelled by its bytes, the lowest first
unfoldable pub constant : ℕ → Form Instr
constant b =
    when (b == 0x41) (s32 >>= λ n. always (instrs.Pure (ops.I32Const n)))
    (when (b == 0x42) (s64 >>= λ n. always (instrs.Pure (ops.I64Const n)))
    (when (b == 0x43) (raw 4 >>= λ bytes. always (instrs.Float (floats.Plain b) (with.Bits32 (from_le_bytes w32 bytes))))
    (when (b == 0x44) (raw 8 >>= λ bytes. always (instrs.Float (floats.Plain b) (with.Bits64 (from_le_bytes w64 bytes))))
    never)))

-- ---- "Reference Instructions"

unfoldable pub reference : ℕ → Form Instr
reference b =
    when (b == 0xD0) (heap_type >>= λ t. always (instrs.Pure (ops.RefNull t)))
    (when (b == 0xD1) (always (instrs.Pure ops.RefIsNull))
    (when (b == 0xD2) (u32 >>= λ f. always (instrs.Pure (ops.RefFunc f)))
    never))

-- ---- behind FC, by a number

unfoldable pub is_transfer : ℕ → Bool
is_transfer n = n == 8 || n == 10 || n == 12 || n == 14

-- the truncations to integers that saturate take floats
unfoldable pub saturating_or_bulk : ℕ → Form Instr
saturating_or_bulk n =
    when (between 0 7 n) (always (instrs.Float (floats.Saturating n) with.None))
    (when (is_transfer n) (twice_indexed (transfer_of n)) (indexed (bulk_of n)))

unfoldable pub behind_fc : Form Instr
behind_fc = u32 >>= saturating_or_bulk
