-- What code is made of, by the first byte: chapter 5 of the 1.0 standard, "Instructions". An instruction that holds code
-- is its opcode and its type here, and the code follows in tokens of its own.
use Rattle.std.specs.Prelude.{ℕ, ◌==◌, if◌then◌else◌, Bool, ◌&&◌, true, false, nat_lt, nat_le, List, Option, Some, None, option_map}
use Rattle.core1_ast.specs.declared.module.ty.BlockType1.{BlockType1}
use Rattle.core1_ast.specs.declared.module.code.Instr1.{Instr1}
use Rattle.core1_ast.specs.declared.module.code.Instr1.TheVariants as instrs
use Rattle.grammar_kit.specs.Form.{Form, always, byte, when, ◌>>=◌}
use Rattle.grammar_kit.specs.Choice.{given}
use Rattle.nested_code.specs.declared.token.Token.{Token}
use Rattle.nested_code.specs.declared.token.Token.TheVariants.{Plain, Open, Else, End}
use Rattle.core1_bytes.specs.declared.head.Head1.{Head1}
use Rattle.core1_bytes.specs.declared.head.Head1.TheVariants as heads
use Rattle.core1_bytes.specs.Types.{block_type}
use Rattle.core1_bytes.specs.Instructions.{control, instr_at}

abbrev pub Token1 : Type 0
Token1 = Token Instr1 Head1

abbrev pub plain : Form Instr1 → Form Token1
plain f = f >>= λ i. always (Plain i)

-- "Control Instructions": those that hold code
unfoldable pub head_of : ℕ → BlockType1 → Option Head1
head_of k t =
    if k == 0x02 then Some (heads.Block t)
    else (if k == 0x03 then Some (heads.Loop t)
    else (if k == 0x04 then Some (heads.If t)
    else None))

unfoldable pub opened : ℕ → Form Token1
opened k = block_type >>= λ t. given (option_map Open (head_of k t))

-- an opcode below 20
unfoldable pub control_at : ℕ → Form Token1
control_at k =
    when (nat_le 0x02 k && nat_le k 0x04) (opened k)
    (when (k == 0x05) (always Else)
    (when (k == 0x0B) (always End) (plain (control k))))

-- "Instructions": by the opcode
unfoldable pub token : Form Token1
token = byte >>= λ k. when (nat_lt k 0x20) (control_at k) (plain (instr_at k))

-- only an if has two arms
abbrev pub has_arms : Head1 → Bool
has_arms (heads.Block t) = false
has_arms (heads.Loop t) = false
has_arms (heads.If t) = true

-- the instruction of a head and its code
abbrev pub build : Head1 → List Instr1 → List Instr1 → Instr1
build (heads.Block t) first second = instrs.Block t first
build (heads.Loop t) first second = instrs.Loop t first
build (heads.If t) first second = instrs.If t first second
