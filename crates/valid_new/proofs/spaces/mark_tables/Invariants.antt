use Rattle.std.proofs.Common.{◌≡◌, take, [], unwrap_or}
use Rattle.std.specs.List.{flat_map}
use Rattle.wasm_ast.specs.Marking.{marked}
use Rattle.typed_trees.specs.Modules.{named_in}
use Rattle.valid_new.proofs.spaces.mark_tables.Given as goal

abbrev pub invariant-loop-table : goal.invariant-loop-table
invariant-loop-table l = l.refs ≡ marked (flat_map (λ t. named_in (unwrap_or t.init [])) (take l.table-index l.tables)) l.initial.refs
