-- Immediates of instructions: chapter 5 of the standard, "Memory Instructions" and "Control Instructions".
use Rattle.std.specs.Prelude.{ℕ, ◌-◌, ◌==◌, nat_lt, if◌then◌else◌, Option, Some, None}
use Rattle.wasm_ast.specs.declared.module.immediates.MemArg.{MemArg}
use Rattle.wasm_ast.specs.declared.module.immediates.Catch.{Catch}
use Rattle.wasm_ast.specs.declared.module.immediates.Catch.TheVariants.{Tag, TagRef, All, AllRef}
use Rattle.grammar_kit.specs.Form.{Form, never, always, byte, when, ◌>>=◌}
use Rattle.grammar_kit.specs.Choice.{given}
use Rattle.wasm_frame.specs.Leb128.{u32, u64}

-- an offset, in an access to this memory with this alignment
unfoldable pub offset_at : ℕ → ℕ → Form MemArg
offset_at m align = u64 >>= λ offset. always (record { memory = m; align = align; offset = offset })

-- "Memory Instructions", memory arguments: the field is the alignment, of an access to memory 0, or the alignment and 64, and
-- the index of a memory follows
unfoldable pub mem_arg : Form MemArg
mem_arg = u32 >>= λ field.
    when (nat_lt field 64) (offset_at 0 field)
    (when (nat_lt field 128) (u32 >>= λ m. offset_at m (field - 64)) never)

-- "Control Instructions", catch clauses: those of a tag, with its index and a label
unfoldable pub tag_clause_of : ℕ → ℕ → ℕ → Option Catch
tag_clause_of kind x l = if kind == 0x00 then Some (Tag x l) else (if kind == 0x01 then Some (TagRef x l) else None)

-- and those of all tags, with a label
unfoldable pub all_clause_of : ℕ → ℕ → Option Catch
all_clause_of kind l = if kind == 0x02 then Some (All l) else (if kind == 0x03 then Some (AllRef l) else None)

unfoldable pub clause : Form Catch
clause = byte >>= λ kind.
    when (nat_lt kind 0x02) (u32 >>= λ x. u32 >>= λ l. given (tag_clause_of kind x l)) (u32 >>= λ l. given (all_clause_of kind l))
