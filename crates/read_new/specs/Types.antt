-- Types that only module parts have: chapter 5 of the standard, "Types".
use Rattle.std.specs.Prelude.{ℕ, List, length, Bool, true, false, Some, None, ◌==◌}
use Rattle.wasm_ast.specs.declared.module.ty.FuncType.{FuncType}
use Rattle.wasm_ast.specs.declared.module.ty.Limits.{Limits}
use Rattle.grammar_kit.specs.Form.{Form, never, always, byte, when, ◌>>=◌, vector}
use Rattle.grammar_kit.specs.Measures.{greatest}
use Rattle.wasm_frame.specs.Leb128.{u32, u64}
use Rattle.code_new.specs.Types.{value_type}

-- "Function Types"
unfoldable pub func_type : Form FuncType
func_type = byte >>= λ b. when (b == 0x60)
    (vector u32 value_type >>= λ params. vector u32 value_type >>= λ results. always (record { params = params; results = results }))
    never

-- how many parameters and results a function type has
abbrev pub counts : FuncType → ℕ × ℕ
counts t = (length t.params, length t.results)

-- the most parameters and results of function types
abbrev pub most_counts : List FuncType → ℕ × ℕ
most_counts types = (greatest (λ t. length t.params) types, greatest (λ t. length t.results) types)

-- "Limits", a least size alone
unfoldable pub from_min : Bool → Form Limits
from_min wide = u64 >>= λ n. always (record { min = n; max = None; wide = wide })

-- "Limits", a least and a greatest size
unfoldable pub from_min_to_max : Bool → Form Limits
from_min_to_max wide = u64 >>= λ n. u64 >>= λ m. always (record { min = n; max = Some m; wide = wide })

-- "Limits", with the address type before them
unfoldable pub limits : Form Limits
limits = byte >>= λ b.
    when (b == 0x00) (from_min false)
    (when (b == 0x01) (from_min_to_max false)
    (when (b == 0x04) (from_min true)
    (when (b == 0x05) (from_min_to_max true) never)))

-- "Global Types", whether the global can be changed
unfoldable pub mutability : Form Bool
mutability = byte >>= λ b. when (b == 0x00) (always false) (when (b == 0x01) (always true) never)

-- "Tag Types": the index of a function type
unfoldable pub tag : Form ℕ
tag = byte >>= λ b. when (b == 0x00) u32 never
