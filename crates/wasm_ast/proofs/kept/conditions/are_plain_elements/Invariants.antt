use Rattle.std.proofs.Common.{◌≡◌, true, take}
use Rattle.std.specs.List.{list_all}
use Rattle.wasm_ast.specs.Kept.{is_plain_element}
use Rattle.wasm_ast.proofs.kept.conditions.are_plain_elements.Given as goal

-- all were plain so far
abbrev pub invariant-loop-element : goal.invariant-loop-element
invariant-loop-element l = list_all (is_plain_element l.known) (take l.element-index l.elements) ≡ true
