use Rattle.std.proofs.Common.{◌≡◌, take}
use Rattle.std.specs.Prelude.{flat_map, unwrap_or, []}
use Rattle.wasm_ast.specs.Kept.{called_in}
use Rattle.wasm_ast.specs.Marking.{marked}
use Rattle.wasm_ast.proofs.kept.used.mark_tables.Given as goal

-- those that are called by so far are marked
abbrev pub invariant-loop-table : goal.invariant-loop-table
invariant-loop-table l = l.used ≡ marked (flat_map (λ t. called_in (unwrap_or t.init [])) (take l.table-index l.tables)) l.initial.used
