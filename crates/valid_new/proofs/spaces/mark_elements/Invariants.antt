use Rattle.std.proofs.Common.{◌≡◌, take}
use Rattle.std.specs.List.{flat_map}
use Rattle.wasm_ast.specs.Marking.{marked}
use Rattle.typed_trees.specs.Modules.{named_in_element}
use Rattle.valid_new.proofs.spaces.mark_elements.Given as goal

abbrev pub invariant-loop-element : goal.invariant-loop-element
invariant-loop-element l = l.refs ≡ marked (flat_map named_in_element (take l.element-index l.elements)) l.initial.refs
