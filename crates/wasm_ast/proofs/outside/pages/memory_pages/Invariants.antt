use Rattle.std.proofs.Common.{◌≡◌, take}
use Rattle.std.specs.List.{sum_by}
use Rattle.wasm_ast.specs.Region.{capped}
use Rattle.wasm_ast.proofs.outside.pages.memory_pages.Given as goal

-- the sum so far
abbrev pub invariant-loop-limits : goal.invariant-loop-limits
invariant-loop-limits l = l.pages ≡ capped (sum_by (λ x. x.min) (take l.limits-index l.memories))
