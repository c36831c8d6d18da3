use Rattle.std.proofs.Common.{◌≡◌, take}
use Rattle.std.specs.List.{flat_map}
use Rattle.wasm_ast.specs.Marking.{marked}
use Rattle.typed_trees.specs.Modules.{func_exported}
use Rattle.valid_new.proofs.spaces.mark_exports.Given as goal

abbrev pub invariant-loop-export : goal.invariant-loop-export
invariant-loop-export l = l.refs ≡ marked (flat_map (λ e. func_exported e.desc) (take l.export-index l.exports)) l.initial.refs
