use Rattle.std.proofs.Common.{◌≡◌, length, take}
use Rattle.std.specs.List.{sum_by}
use Rattle.wasm_ast.specs.Region.{capped}
use Rattle.wasm_ast.proofs.outside.pages.entry_count.Given as goal

-- the sum so far
abbrev pub invariant-loop-element : goal.invariant-loop-element
invariant-loop-element l = l.count ≡ capped (sum_by (λ e. length e.items) (take l.element-index l.elements))
