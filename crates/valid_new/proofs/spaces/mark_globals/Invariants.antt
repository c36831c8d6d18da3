use Rattle.std.proofs.Common.{◌≡◌, take}
use Rattle.std.specs.List.{flat_map}
use Rattle.wasm_ast.specs.Marking.{marked}
use Rattle.typed_trees.specs.Modules.{named_in}
use Rattle.valid_new.proofs.spaces.mark_globals.Given as goal

abbrev pub invariant-loop-global : goal.invariant-loop-global
invariant-loop-global l = l.refs ≡ marked (flat_map (λ g. named_in g.init) (take l.global-index l.globals)) l.initial.refs
