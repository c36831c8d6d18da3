use Rattle.std.proofs.Common.{sym, ◌∙◌}
use Rattle.std.proofs.lemmas.List.{nil_from_length}
use Rattle.std.proofs.lemmas.Bool.{eqb-true}
use Rattle.wasm_frame.proofs.Contents.{counted_whole}
use Rattle.wasm_frame.proofs.payloads.measure_vector.Goals as goal

pub returns-then-is_empty : goal.returns-then-is_empty
returns-then-is_empty g c =
    let nothing_left = nil_from_length _ (eqb-true _ _ (sym c.is_empty.ensures ∙ c.if-is_empty.true)) in
    rw (rw c.in_ok-count.ensures.ok_part at c.split_u32.ensures)
    (counted_whole g.M.Measure.form g.M.Measure.size c.in_ok-count.count c.in_ok-count.rest.now c.in_ok-extent.rest.now _ _ c.in_ok-extent.ensures nothing_left)
