use Rattle.std.proofs.Common.{sym, ◌∙◌, arith}
use Rattle.std.proofs.lemmas.Bool.{eqb-true, lt-ltb}
use Rattle.std.proofs.lemmas.List.{nil_from_length}
use Rattle.read_new.specs.Bodies.{body}
use Rattle.read_new.proofs.Measured.{of_body}
use Rattle.read_new.proofs.parts.bodies.measure_body.Goals as goal

pub returns : goal.returns
unfolding body
returns c =
    let nothing_left = nil_from_length _ (eqb-true _ _ (sym c.is_empty.ensures ∙ c.if-not-is_empty.false)) in
    rw (rw c.in_ok-count.ensures.ok_part at c.split_u32.ensures)
    (of_body _ _ _ c.in_ok-extent.extent.greatest c.in_ok-extent.extent.total c.in_ok-extent.rest.now c.in_ok-extent.ensures
    (lt-ltb _ _ (omega (arith, c.if-extent-from.false, c.from.ensures))) (rw nothing_left at c.in_ok-sizes.ensures))
