-- What goes when a module is trimmed: nops, exports of tags, and a count of data segments that no body asks for.
use Rattle.std.specs.Prelude.{ℕ, Bool, true, false, not, cond, ◌||◌, List, [], ◌∷◌, Option, None}
use Rattle.std.specs.List.{list_any, filter}
use Rattle.wasm_ast.specs.Counts.{is_data_use}
use Rattle.wasm_ast.specs.Occurrence.{head_of}
use Rattle.wasm_ast.specs.declared.module.code.Instr.{Instr, out-Instr}
use Rattle.wasm_ast.specs.declared.module.code.Instr.TheOpen.{Instr-F}
use Rattle.wasm_ast.specs.declared.module.parts.Export.{Export}
use Rattle.wasm_ast.specs.declared.module.parts.ExportDesc.{ExportDesc}
use Rattle.wasm_ast.specs.declared.module.parts.ExportDesc.TheVariants.{Tag}
use Rattle.wasm_ast.specs.declared.module.parts.Module.{Module}
use Rattle.typed_trees.specs.declared.module.TypedFn.{TypedFn}
use Rattle.typed_trees.specs.declared.node.Node.{Node}
use Rattle.typed_trees.specs.declared.node.Node.TheOpen.{Node-F}
use Rattle.typed_trees.specs.declared.node.Node.TheFolds.{fold-Node}
use Rattle.typed_trees.specs.Trees.{first_held, second_held}
use Rattle.rewriting_kit.specs.Rewrites.{Layer, node_of}

-- what becomes of an instruction that otherwise stays as these nodes
abbrev pub trimmed : Instr-F Instr → List Node → List Node
trimmed Instr-F.Nop kept = []
trimmed _ kept = kept

abbrev pub by_trimming : Layer (Unit {0})
by_trimming x head takes gives first second = trimmed (out-Instr head) (node_of head takes gives first second ∷ [])

-- the exports without tags
abbrev pub is_tag : ExportDesc → Bool
is_tag (Tag x) = true
is_tag _ = false

abbrev pub untagged : List Export → List Export
untagged exports = filter (λ e. not (is_tag e.desc)) exports

-- the count of data segments, where some node names one
abbrev pub asks_layer : Node-F Bool → Bool
asks_layer n = is_data_use (head_of n.head) || list_any (λ b. b) (first_held n.bodies) || list_any (λ b. b) (second_held n.bodies)

abbrev pub asks : Node → Bool
asks = fold-Node Bool asks_layer

abbrev pub asks_for_count : List TypedFn → Bool
asks_for_count fns = list_any (λ f. list_any asks f.body) fns

abbrev pub used_count : Option ℕ → List TypedFn → Option ℕ
used_count count fns = cond (asks_for_count fns) count None

-- the parts beside bodies
abbrev pub trimmed_part : Module × List TypedFn → Module
trimmed_part m = record m.0 { exports = untagged m.0.exports; data_count = used_count m.0.data_count m.1 }
