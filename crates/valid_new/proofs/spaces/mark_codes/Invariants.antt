use Rattle.std.proofs.Common.{◌≡◌, take}
use Rattle.std.specs.List.{flat_map}
use Rattle.wasm_ast.specs.Marking.{marked}
use Rattle.typed_trees.specs.Modules.{named_in}
use Rattle.valid_new.proofs.spaces.mark_codes.Given as goal

abbrev pub invariant-loop-code : goal.invariant-loop-code
invariant-loop-code l = l.refs ≡ marked (flat_map named_in (take l.code-index l.codes)) l.initial.refs
