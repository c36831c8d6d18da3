use Rattle.std.proofs.Common.{◌≡◌, take}
use Rattle.std.specs.Prelude.{flat_map}
use Rattle.wasm_ast.specs.Kept.{called_in}
use Rattle.wasm_ast.specs.Marking.{marked}
use Rattle.wasm_ast.proofs.kept.used.mark_bodies.Given as goal

-- those that are called by so far are marked
abbrev pub invariant-loop-body : goal.invariant-loop-body
invariant-loop-body l = l.used ≡ marked (flat_map (λ b. called_in b.code) (take l.body-index l.bodies)) l.initial.used
