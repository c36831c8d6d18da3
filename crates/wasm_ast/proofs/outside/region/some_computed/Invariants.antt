use Rattle.std.proofs.Common.{◌≡◌, false, not, take}
use Rattle.std.specs.List.{list_any}
use Rattle.wasm_ast.specs.Region.{has_known_offset}
use Rattle.wasm_ast.proofs.outside.region.some_computed.Given as goal

-- none so far is computed
abbrev pub invariant-loop-segment : goal.invariant-loop-segment
invariant-loop-segment l = list_any (λ s. not (has_known_offset l.known s.mode)) (take l.segment-index l.segments) ≡ false
