use Rattle.std.proofs.Common.{◌≡◌, take}
use Rattle.std.specs.Prelude.{flat_map}
use Rattle.wasm_ast.specs.Kept.{called_in}
use Rattle.wasm_ast.specs.Marking.{marked}
use Rattle.wasm_ast.proofs.kept.used.mark_codes.Given as goal

-- those that are called by so far are marked
abbrev pub invariant-loop-code : goal.invariant-loop-code
invariant-loop-code l = l.used ≡ marked (flat_map called_in (take l.code-index l.codes)) l.initial.used
