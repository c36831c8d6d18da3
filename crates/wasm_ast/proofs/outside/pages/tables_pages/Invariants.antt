use Rattle.std.proofs.Common.{◌≡◌, take}
use Rattle.std.specs.List.{sum_by}
use Rattle.wasm_ast.specs.Region.{capped, table_pages}
use Rattle.wasm_ast.proofs.outside.pages.tables_pages.Given as goal

-- the sum so far
abbrev pub invariant-loop-table : goal.invariant-loop-table
invariant-loop-table l = l.pages ≡ capped (sum_by (λ t. table_pages l.moved t.limits) (take l.table-index l.tables))
