use Rattle.std.proofs.Common.{sym, ◌∙◌}
use Rattle.num_core.proofs.Ranges.{binary_below}
use Rattle.run_new.proofs.numeric.binary_operator.Goals as goal

pub of_width-requires : goal.of_width-requires
of_width-requires c =
    binary_below c.args.width c.integer.result c.integer-2.result c.in-Some.i c.integer.ensures.below c.integer-2.ensures.below c.args.op (sym c.binary.ensures ∙ c.in-Some.is)
