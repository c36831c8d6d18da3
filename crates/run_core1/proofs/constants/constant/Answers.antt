use Rattle.std.proofs.Common.{[], ap, sym, ◌∙◌}
use Rattle.std.specs.Option.{option_copied}
use Rattle.run_core1.proofs.LastValue.{last_value}
use Rattle.run_core1.proofs.constants.constant.Goals as goal

pub returns-in-Some : goal.returns-in-Some
returns-in-Some c =
    c.constant_of.ensures ∙ sym (last_value c.args.globals.now c.args.code.now [] c.in-Some.instr.now c.requires (sym c.last.ensures.value ∙ ap option_copied c.in-Some.is))
