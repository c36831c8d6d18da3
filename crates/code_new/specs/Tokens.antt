-- What code is made of, by the first byte: chapter 5 of the standard, "Instructions". An instruction that holds code is its
-- opcode and immediates here, and the code follows in tokens of its own.
use Rattle.std.specs.Prelude.{ℕ, ◌==◌, ◌&&◌, ◌||◌, if◌then◌else◌, Bool, true, false, nat_lt, nat_le, List, Option, Some, None, option_map}
use Rattle.wasm_ast.specs.declared.module.ty.BlockType.{BlockType}
use Rattle.wasm_ast.specs.declared.module.code.Instr.{Instr}
use Rattle.wasm_ast.specs.declared.module.code.Instr.TheVariants as instrs
use Rattle.grammar_kit.specs.Form.{Form, always, byte, when, ◌>>=◌, vector}
use Rattle.grammar_kit.specs.Choice.{given, given_or}
use Rattle.wasm_frame.specs.Leb128.{u32}
use Rattle.nested_code.specs.declared.token.Token.{Token}
use Rattle.nested_code.specs.declared.token.Token.TheVariants.{Plain, Open, Else, End}
use Rattle.code_new.specs.declared.head.Head.{Head}
use Rattle.code_new.specs.declared.head.Head.TheVariants.{Block, Loop, If, TryTable}
use Rattle.code_new.specs.Types.{block_type}
use Rattle.code_new.specs.Immediates.{clause}
use Rattle.code_new.specs.Instructions.{plain_of, numeric_of, jump_of, variable_of, indexed, indirect_of, twice_indexed, br_table, select_typed, access, size_of, constant, reference, behind_fc}
use Rattle.code_new.specs.Vectors.{behind_fd}

-- an opcode below 20 of an instruction that holds no code
unfoldable pub control_at : ℕ → Form Instr
control_at b =
    when (b == 0x0E) br_table
    (when (b == 0x1C) select_typed
    (when (b == 0x11 || b == 0x13) (twice_indexed (indirect_of b))
    (given_or (plain_of b) (indexed (jump_of b)))))

-- an opcode from 20 on: no such instruction holds code
unfoldable pub instr_at : ℕ → Form Instr
instr_at b =
    when (nat_lt b 0x28) (indexed (variable_of b))
    (when (nat_lt b 0x3F) (access b)
    (when (nat_lt b 0x41) (indexed (size_of b))
    (when (nat_lt b 0x45) (constant b)
    (when (nat_lt b 0xD0) (given (numeric_of b))
    (when (b == 0xFC) behind_fc
    (when (b == 0xFD) behind_fd (reference b)))))))

abbrev pub plain : Form Instr → Form (Token Instr Head)
plain f = f >>= λ i. always (Plain i)

-- "Control Instructions": those that hold code
unfoldable pub head_of : ℕ → BlockType → Option Head
head_of b t =
    if b == 0x02 then Some (Block t)
    else (if b == 0x03 then Some (Loop t)
    else (if b == 0x04 then Some (If t)
    else None))

unfoldable pub opened : ℕ → Form (Token Instr Head)
opened b = block_type >>= λ t. given (option_map Open (head_of b t))

-- a catch clause's labels are as they stand
unfoldable pub try_table : Form (Token Instr Head)
try_table = block_type >>= λ t. vector u32 clause >>= λ cs. always (Open (TryTable t cs))

-- an opcode below 20
unfoldable pub head_at : ℕ → Form (Token Instr Head)
head_at b =
    when (nat_le 0x02 b && nat_le b 0x04) (opened b)
    (when (b == 0x05) (always Else)
    (when (b == 0x0B) (always End)
    (when (b == 0x1F) try_table (plain (control_at b)))))

unfoldable pub token_at : ℕ → Form (Token Instr Head)
token_at b = when (nat_lt b 0x20) (head_at b) (plain (instr_at b))

unfoldable pub token : Form (Token Instr Head)
token = byte >>= token_at

-- an else may stand in an if alone
abbrev pub has_arms : Head → Bool
has_arms (If t) = true
has_arms _ = false

-- the instruction of a head and the code that it holds
abbrev pub build : Head → List Instr → List Instr → Instr
build (Block t) code second = instrs.Block t code
build (Loop t) code second = instrs.Loop t code
build (If t) first second = instrs.If t first second
build (TryTable t cs) code second = instrs.TryTable t cs code
