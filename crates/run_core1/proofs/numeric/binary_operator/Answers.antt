use Rattle.std.proofs.Common.{sym, ◌∙◌}
use Rattle.num_core.proofs.Ranges.{binary_below}
use Rattle.run_core1.proofs.numeric.binary_operator.Goals as goal

pub of_width-requires : goal.of_width-requires
of_width-requires c =
    binary_below c.args.width c.number_of.result c.number_of-2.result c.in-Some.i c.number_of.ensures.below c.number_of-2.ensures.below c.args.op (sym c.binary.ensures ∙ c.in-Some.is)
