use Rattle.std.proofs.Common.{◌≡◌, take}
use Rattle.std.specs.Prelude.{flat_map, option_to_list}
use Rattle.wasm_ast.specs.Kept.{entry_type}
use Rattle.wasm_ast.specs.Marking.{marked}
use Rattle.wasm_ast.proofs.kept.placed.mark_entries.Given as goal

-- the types of the entries so far are marked
abbrev pub invariant-loop-entry : goal.invariant-loop-entry
invariant-loop-entry l = l.used ≡ marked (flat_map (λ entry. option_to_list (entry_type l.indices entry)) (take l.entry-index l.entries)) l.initial.used
