-- The bodies of functions: chapter 5 of the standard, "Code Section".
use Rattle.std.specs.Prelude.{ℕ, ◌^◌, List, nat_lt, sum_by, flat_map, replicate, length, Bool}
use Rattle.wasm_ast.specs.declared.module.code.Body.{Body}
use Rattle.wasm_ast.specs.declared.module.ty.Ty.{Ty}
use Rattle.grammar_kit.specs.Form.{Form, never, always, when, ◌>>=◌, vector}
use Rattle.wasm_frame.specs.Leb128.{u32}
use Rattle.code_new.specs.Types.{value_type}
use Rattle.code_new.specs.Code.{expr, depths}
use Rattle.code_new.specs.Code.{names_data}
use Rattle.read_new.specs.declared.parts.bodies.LocalGroup.{LocalGroup}

-- a count of locals, and their type
unfoldable pub local_group : Form LocalGroup
local_group = u32 >>= λ n. value_type >>= λ t. always (record { count = n; ty = t })

-- how many locals the groups declare
abbrev pub locals_count : List LocalGroup → ℕ
locals_count groups = sum_by (λ g. g.count) groups

-- each local of the groups
abbrev pub locals_of : List LocalGroup → List Ty
locals_of groups = flat_map (λ g. replicate g.count g.ty) groups

-- code, in a body with these groups of locals
unfoldable pub body_with : List LocalGroup → Form Body
body_with groups = expr >>= λ code. always (record { locals = locals_of groups; code = code })

-- groups of fewer than 2^32 locals in all, and an expression
unfoldable pub body : Form Body
body = vector u32 local_group >>= λ groups. when (nat_lt (locals_count groups) (2 ^ 32)) (body_with groups) never

-- how many locals a body declares, how deeply its instructions nest, and whether one of them names a data segment
abbrev pub sizes_of : Body → ℕ × ℕ × Bool
sizes_of b = (length b.locals, depths b.code, names_data b.code)
