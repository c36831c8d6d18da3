use Rattle.std.proofs.Common.{◌≡◌, length, take}
use Rattle.std.specs.List.{sum_by}
use Rattle.wasm_ast.specs.Region.{capped}
use Rattle.wasm_ast.proofs.outside.pages.byte_count.Given as goal

-- the sum so far
abbrev pub invariant-loop-segment : goal.invariant-loop-segment
invariant-loop-segment l = l.count ≡ capped (sum_by (λ s. length s.bytes) (take l.segment-index l.segments))
