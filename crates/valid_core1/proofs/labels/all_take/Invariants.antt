use Rattle.std.proofs.Common.{◌≡◌, ℕ, drop, slice_get}
use Rattle.std.specs.List.{list_all}
use Rattle.core1_ast.specs.Operands.{block_results}
use Rattle.valid_core1.specs.Forms.{is_label}
use Rattle.valid_core1.specs.Scopes.{label_types}
use Rattle.valid_core1.proofs.labels.all_take.Given as goal

abbrev pub invariant-loop-index : goal.invariant-loop-index
invariant-loop-index l =
    let p = λ (i : ℕ). is_label (slice_get (label_types l.labels) i) (block_results l.ty) in
    list_all p (drop l.index-index l.indices) ≡ list_all p l.indices
