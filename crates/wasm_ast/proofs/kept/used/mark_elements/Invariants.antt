use Rattle.std.proofs.Common.{◌≡◌, take}
use Rattle.std.specs.Prelude.{flat_map}
use Rattle.wasm_ast.specs.Kept.{called_in_element}
use Rattle.wasm_ast.specs.Marking.{marked}
use Rattle.wasm_ast.proofs.kept.used.mark_elements.Given as goal

-- those that are called by so far are marked
abbrev pub invariant-loop-element : goal.invariant-loop-element
invariant-loop-element l = l.used ≡ marked (flat_map called_in_element (take l.element-index l.elements)) l.initial.used
