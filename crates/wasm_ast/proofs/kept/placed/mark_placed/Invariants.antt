use Rattle.std.proofs.Common.{◌≡◌, take}
use Rattle.std.specs.Prelude.{flat_map}
use Rattle.wasm_ast.specs.Kept.{types_placed}
use Rattle.wasm_ast.specs.Marking.{marked}
use Rattle.wasm_ast.proofs.kept.placed.mark_placed.Given as goal

-- the types of the segments so far are marked
abbrev pub invariant-loop-element : goal.invariant-loop-element
invariant-loop-element l = l.used ≡ marked (flat_map (types_placed l.indices) (take l.element-index l.elements)) l.initial.used
