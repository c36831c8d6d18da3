use Rattle.std.proofs.Common.{◌≡◌, take}
use Rattle.std.specs.Prelude.{flat_map}
use Rattle.wasm_ast.specs.Kept.{called_in_offset}
use Rattle.wasm_ast.specs.Marking.{marked}
use Rattle.wasm_ast.proofs.kept.used.mark_datas.Given as goal

-- those that are called by so far are marked
abbrev pub invariant-loop-segment : goal.invariant-loop-segment
invariant-loop-segment l = l.used ≡ marked (flat_map (λ s. called_in_offset s.mode) (take l.segment-index l.segments)) l.initial.used
