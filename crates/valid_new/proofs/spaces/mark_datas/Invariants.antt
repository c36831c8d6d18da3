use Rattle.std.proofs.Common.{◌≡◌, take}
use Rattle.std.specs.List.{flat_map}
use Rattle.wasm_ast.specs.Marking.{marked}
use Rattle.typed_trees.specs.Modules.{named_in_offset}
use Rattle.valid_new.proofs.spaces.mark_datas.Given as goal

abbrev pub invariant-loop-segment : goal.invariant-loop-segment
invariant-loop-segment l = l.refs ≡ marked (flat_map (λ s. named_in_offset s.mode) (take l.segment-index l.datas)) l.initial.refs
