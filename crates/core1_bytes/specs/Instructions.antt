-- Single instructions by their opcode and immediates: chapter 5 of the 1.0 standard, "Instructions". Those with the same
-- immediates stand together, and what holds code is in `Tokens`.
use Rattle.std.specs.Prelude.{ℕ, ◌==◌, if◌then◌else◌, nat_lt, Option, Some, None, option_map}
use Rattle.std.specs.Option.{option_or}
use Rattle.std.specs.Int.{w32, w64, from_le_bytes}
use Rattle.opcode_table.specs.Accesses.{load_of, store_of}
use Rattle.opcode_table.specs.Floats.{is_float_access, is_float_operator}
use Rattle.core1_ast.specs.declared.module.immediates.MemArg1.{MemArg1}
use Rattle.core1_ast.specs.declared.module.immediates.FloatImmediates1.TheVariants as floats
use Rattle.core1_ast.specs.declared.module.op.Op1.TheVariants.{I32Const, I64Const}
use Rattle.core1_ast.specs.declared.module.code.Instr1.{Instr1}
use Rattle.core1_ast.specs.declared.module.code.Instr1.TheVariants as instrs
use Rattle.grammar_kit.specs.Form.{Form, never, always, byte, raw, when, ◌>>=◌, vector}
use Rattle.grammar_kit.specs.Choice.{given, given_or}
use Rattle.wasm_frame.specs.Leb128.{u32, s32, s64}
use Rattle.core1_bytes.specs.Operators.{operator_of}

-- ---- without immediates

-- "Control Instructions" and "Parametric Instructions"
unfoldable pub plain_of : ℕ → Option Instr1
plain_of k =
    if k == 0x00 then Some instrs.Unreachable
    else (if k == 0x01 then Some instrs.Nop
    else (if k == 0x0F then Some instrs.Return
    else (if k == 0x1A then Some instrs.Drop
    else (if k == 0x1B then Some instrs.Select
    else None))))

-- "Numeric Instructions": operators
unfoldable pub numeric_of : ℕ → Option Instr1
numeric_of k =
    option_or (option_map instrs.Pure (operator_of k))
    (if is_float_operator k then Some (instrs.Float k floats.None) else None)

-- ---- an index behind the opcode

-- "Control Instructions"
unfoldable pub jump_of : ℕ → ℕ → Option Instr1
jump_of k x =
    if k == 0x0C then Some (instrs.Br x)
    else (if k == 0x0D then Some (instrs.BrIf x)
    else (if k == 0x10 then Some (instrs.Call x)
    else None))

-- "Variable Instructions"
unfoldable pub variable_of : ℕ → ℕ → Option Instr1
variable_of k x =
    if k == 0x20 then Some (instrs.LocalGet x)
    else (if k == 0x21 then Some (instrs.LocalSet x)
    else (if k == 0x22 then Some (instrs.LocalTee x)
    else (if k == 0x23 then Some (instrs.GlobalGet x)
    else (if k == 0x24 then Some (instrs.GlobalSet x)
    else None))))

-- an index, of these instructions
abbrev pub indexed : (ℕ → Option Instr1) → Form Instr1
indexed make = u32 >>= λ x. given (make x)

-- "Control Instructions": the labels, and the last one
unfoldable pub br_table : Form Instr1
br_table = vector u32 u32 >>= λ labels. u32 >>= λ last. always (instrs.BrTable labels last)

-- ---- a byte that is reserved

-- a byte that 1.0 wants to be zero, where later versions have an index
abbrev pub zero : Form ℕ
zero = byte >>= λ z. when (z == 0x00) (always z) never

-- "Control Instructions": the type, and the byte for the table
unfoldable pub indirect : Form Instr1
indirect = u32 >>= λ t. zero >>= λ z. always (instrs.CallIndirect t)

-- "Memory Instructions": the byte for the memory
unfoldable pub size_of : ℕ → Option Instr1
size_of k = if k == 0x3F then Some instrs.MemorySize else (if k == 0x40 then Some instrs.MemoryGrow else None)

unfoldable pub size : ℕ → Form Instr1
size k = zero >>= λ z. given (size_of k)

-- ---- "Memory Instructions"

-- the exponent of the alignment, and the offset
unfoldable pub mem_arg : Form MemArg1
mem_arg = u32 >>= λ a. u32 >>= λ o. always (record { align = a; offset = o })

unfoldable pub access_of : ℕ → MemArg1 → Option Instr1
access_of k at =
    option_or (option_map (λ op. instrs.Load op at) (load_of k))
    (option_or (option_map (λ op. instrs.Store op at) (store_of k))
    (if is_float_access k then Some (instrs.Float k (floats.Memory at)) else None))

unfoldable pub access : ℕ → Form Instr1
access k = mem_arg >>= λ at. given (access_of k at)

-- ---- "Numeric Instructions": constants, a float by its bytes, the lowest first

unfoldable pub constant : ℕ → Form Instr1
constant k =
    when (k == 0x41) (s32 >>= λ n. always (instrs.Pure (I32Const n)))
    (when (k == 0x42) (s64 >>= λ n. always (instrs.Pure (I64Const n)))
    (when (k == 0x43) (raw 4 >>= λ bytes. always (instrs.Float k (floats.Bits32 (from_le_bytes w32 bytes))))
    (when (k == 0x44) (raw 8 >>= λ bytes. always (instrs.Float k (floats.Bits64 (from_le_bytes w64 bytes)))) never)))

-- ---- by the opcode

-- an opcode below 20
unfoldable pub control : ℕ → Form Instr1
control k =
    when (k == 0x0E) br_table
    (when (k == 0x11) indirect
    (given_or (plain_of k) (indexed (jump_of k))))

-- an opcode from 20 on
unfoldable pub instr_at : ℕ → Form Instr1
instr_at k =
    when (nat_lt k 0x28) (indexed (variable_of k))
    (when (nat_lt k 0x3F) (access k)
    (when (nat_lt k 0x41) (size k)
    (when (nat_lt k 0x45) (constant k) (given (numeric_of k)))))
