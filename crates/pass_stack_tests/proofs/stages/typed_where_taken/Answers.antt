use Rattle.std.proofs.Common.{sym, ◌∙◌}
use Rattle.pass_stack_tests.proofs.Taken.{typed_taken}
use Rattle.pass_stack_tests.proofs.stages.typed_where_taken.Goals as goal

pub returns-in-Ok-None : goal.returns-in-Ok-None
returns-in-Ok-None c =
    rw c.ok.ensures.value (typed_taken c.args.m.now c.validate.result (sym c.in-Ok-None.ensures ∙ c.in-Ok-None.field-0-is) c.validate.ensures.stands)
