-- Expressions, how deeply the instructions in them nest, and whether they name data segments: chapter 5 of the standard,
-- "Expressions".
use Rattle.std.specs.Prelude.{ℕ, suc, max, List, Bool, true, false}
use Rattle.wasm_ast.specs.declared.module.code.Instr.{Instr}
use Rattle.wasm_ast.specs.declared.module.code.Instr.TheOpen.{Instr-F}
use Rattle.wasm_ast.specs.declared.module.code.Instr.TheFolds.{fold-Instr}
pub use Rattle.wasm_ast.specs.Counts.{is_data_use, names_data}
use Rattle.wasm_ast.specs.Occurrence.{Head, head_of, some_in}
use Rattle.grammar_kit.specs.Form.{Form}
use Rattle.grammar_kit.specs.Measures.{greatest}
use Rattle.nested_code.specs.Nesting as nesting
use Rattle.code_new.specs.Tokens.{token, has_arms, build}

-- instructions, and the end that closes them
unfoldable pub expr : Form (List Instr)
expr = nesting.expr token has_arms build

abbrev pub deepest : List ℕ → ℕ
deepest = greatest (λ n. n)

-- one instruction, of which each body has the depths of its instructions
abbrev pub depth_step : Instr-F ℕ → ℕ
depth_step (Instr-F.Block t code) = suc (deepest code)
depth_step (Instr-F.Loop t code) = suc (deepest code)
depth_step (Instr-F.If t first second) = suc (max (deepest first) (deepest second))
depth_step (Instr-F.TryTable t cs code) = suc (deepest code)
depth_step _ = 0

-- how many instructions that hold code stand in one another, at most
unfoldable pub depth : Instr → ℕ
depth = fold-Instr ℕ depth_step

-- the greatest depth in code, and 0 where there are no instructions
abbrev pub depths : List Instr → ℕ
depths = greatest depth

-- by itself, whatever stands in its bodies
abbrev pub uses_data : Instr → Bool
uses_data i = is_data_use (head_of i)

-- how deeply instructions nest in code, and whether it names a data segment
abbrev pub sizes : List Instr → ℕ × Bool
sizes code = (depths code, names_data code)
