use Rattle.std.proofs.Common.{length, subst}
use Rattle.valid_core1.specs.Sections.{Finds}
use Rattle.valid_core1.specs.Parts.{BodyTyped}
use Rattle.valid_core1.proofs.Whole.{typed_from}
use Rattle.valid_core1.proofs.validate.check_module.Goals as goal

pub returns : goal.returns
returns c =
    let m = c.args.m.now in
    typed_from m (c.is_short_module.ensures c.if-not-is_short_module.false) c.requires c.in_ok-check_parts.ensures
    (subst (Finds (BodyTyped m) (length m.codes)) c.in-None.is c.in_ok-place.ensures)
