-- Expressions and the bodies of functions: chapter 5 of the 1.0 standard, "Expressions" and "Code Section".
use Rattle.std.specs.Prelude.{ℕ, Bool, false, ◌^◌, length, List, nat_lt, sum_by, flat_map, replicate}
use Rattle.core1_ast.specs.declared.module.ty.Ty1.{Ty1}
use Rattle.core1_ast.specs.declared.module.code.Instr1.{Instr1}
use Rattle.core1_ast.specs.declared.module.code.Body1.{Body1}
use Rattle.grammar_kit.specs.Form.{Form, never, always, when, ◌>>=◌, vector}
use Rattle.grammar_kit.specs.Measures.{greatest}
use Rattle.nested_code.specs.Nesting as nesting
use Rattle.wasm_frame.specs.Leb128.{u32}
use Rattle.core1_bytes.specs.declared.body.LocalGroup1.{LocalGroup1}
use Rattle.core1_bytes.specs.Nesting.{depth}
use Rattle.core1_bytes.specs.Types.{value_type}
use Rattle.core1_bytes.specs.Tokens.{token, has_arms, build}

-- "Expressions"
unfoldable pub expr : Form (List Instr1)
expr = nesting.expr token has_arms build

-- "Code Section": a count of locals, and their type
unfoldable pub local_group : Form LocalGroup1
local_group = u32 >>= λ n. value_type >>= λ t. always (record { count = n; ty = t })

-- how many locals the groups declare
abbrev pub locals_count : List LocalGroup1 → ℕ
locals_count groups = sum_by (λ g. g.count) groups

-- each local of the groups
abbrev pub locals_of : List LocalGroup1 → List Ty1
locals_of groups = flat_map (λ g. replicate g.count g.ty) groups

-- code, in a body with these groups of locals
unfoldable pub body_with : List LocalGroup1 → Form Body1
body_with groups = expr >>= λ code. always (record { locals = locals_of groups; code = code })

-- "Code Section": groups of fewer than 2^32 locals in all, and an expression
unfoldable pub body : Form Body1
body = vector u32 local_group >>= λ groups. when (nat_lt (locals_count groups) (2 ^ 32)) (body_with groups) never

-- how many locals a body declares, how deeply its instructions nest, and that none of them names a data segment
abbrev pub sizes_of : Body1 → ℕ × ℕ × Bool
sizes_of b = (length b.locals, greatest depth b.code, false)
