use Rattle.std.proofs.Common.{sym, ◌∙◌}
use Rattle.meaning_new.specs.Store.{missing}
use Rattle.run_new.proofs.Places.{not_there}
use Rattle.run_new.proofs.leaves.local.Goals as goal

pub returns-in-None : goal.returns-in-None
returns-in-None c = not_there c.args.locals.now.used c.args.index missing (sym c.get.ensures ∙ c.in-None.is)
