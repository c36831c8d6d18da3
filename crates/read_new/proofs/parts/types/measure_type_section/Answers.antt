use Rattle.std.proofs.Common.{sym, ◌∙◌}
use Rattle.std.proofs.lemmas.Bool.{eqb-true}
use Rattle.std.proofs.lemmas.List.{nil_from_length}
use Rattle.read_new.proofs.TypeSizes.{sizes_of_types}
use Rattle.read_new.proofs.parts.types.measure_type_section.Goals as goal

pub returns : goal.returns
returns c =
    let nothing_left = nil_from_length _ (eqb-true _ _ (sym c.is_empty.ensures ∙ c.if-not-is_empty.false)) in
    sizes_of_types c.args.payload.now c.in_ok-count.count c.in_ok-count.rest.now _ _ _ (rw c.in_ok-count.ensures.ok_part at c.split_u32.ensures) c.in_ok-parameters.ensures nothing_left
