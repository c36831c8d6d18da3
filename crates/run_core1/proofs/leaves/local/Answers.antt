use Rattle.std.proofs.Common.{sym, ◌∙◌}
use Rattle.meaning_core1.specs.Store.{absent}
use Rattle.run_core1.proofs.Places.{not_there}
use Rattle.run_core1.proofs.leaves.local.Goals as goal

pub returns-in-None : goal.returns-in-None
returns-in-None c = not_there c.args.locals.now.used c.args.index absent (sym c.get.ensures ∙ c.in-None.is)
