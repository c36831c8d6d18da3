use Rattle.std.proofs.Common.{◌≡◌, take}
use Rattle.std.specs.List.{sum_by}
use Rattle.wasm_ast.specs.Region.{capped, import_pages}
use Rattle.wasm_ast.proofs.outside.pages.imported_pages.Given as goal

-- the sum so far
abbrev pub invariant-loop-import : goal.invariant-loop-import
invariant-loop-import l = l.pages ≡ capped (sum_by (λ i. import_pages l.moved i.desc) (take l.import-index l.imports))
