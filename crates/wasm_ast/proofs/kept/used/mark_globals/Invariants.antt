use Rattle.std.proofs.Common.{◌≡◌, take}
use Rattle.std.specs.Prelude.{flat_map}
use Rattle.wasm_ast.specs.Kept.{called_in}
use Rattle.wasm_ast.specs.Marking.{marked}
use Rattle.wasm_ast.proofs.kept.used.mark_globals.Given as goal

-- those that are called by so far are marked
abbrev pub invariant-loop-global : goal.invariant-loop-global
invariant-loop-global l = l.used ≡ marked (flat_map (λ g. called_in g.init) (take l.global-index l.globals)) l.initial.used
