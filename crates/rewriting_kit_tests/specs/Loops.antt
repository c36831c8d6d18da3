-- The body of each loop in a block, so that a branch to the block leaves the turn and not the loop.
use Rattle.std.specs.Prelude.{ℕ, List, [], ◌∷◌, Option, Some, None}
use Rattle.wasm_ast.specs.declared.module.ty.Ty.{Ty}
use Rattle.wasm_ast.specs.declared.module.ty.FuncType.{FuncType}
use Rattle.wasm_ast.specs.declared.module.code.Instr.{Instr, roll-Instr}
use Rattle.wasm_ast.specs.declared.module.code.Instr.TheOpen.{Instr-F}
use Rattle.typed_trees.specs.declared.node.Node.{Node}
use Rattle.typed_trees.specs.Contexts.{Context, block_type}
use Rattle.rewriting_kit.specs.Rewrites.{node_of}

-- what a body gives
abbrev pub results_of : Option FuncType → List Ty
results_of None = []
results_of (Some t) = t.results

-- how many labels stand inside that of an instruction
abbrev pub label_count : Instr-F Instr → ℕ
label_count (Instr-F.Loop t code) = 1
label_count l = 0

-- what becomes of a node that otherwise stays as these
abbrev pub looped : Instr-F Instr → List Ty → List Ty → List Node → List Node → List Node
looped (Instr-F.Loop t code) takes gives first kept =
    node_of (roll-Instr (Instr-F.Loop t [])) takes gives (node_of (roll-Instr (Instr-F.Block t [])) takes gives first [] ∷ []) [] ∷ []
looped l takes gives first kept = kept

module _ (c : Context) where
  -- what branches to the label of the block take
  abbrev pub labels_in : Instr-F Instr → List (List Ty)
  labels_in (Instr-F.Loop t code) = results_of (block_type c t) ∷ []
  labels_in l = []
