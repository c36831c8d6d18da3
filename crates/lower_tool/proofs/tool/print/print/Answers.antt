use Rattle.lower_tool.proofs.KnownLemmas.{prints_from}
use Rattle.lower_tool.proofs.tool.print.print.Goals as goal

pub returns-clause-prints : goal.returns-clause-prints
returns-clause-prints g c = prints_from _ _ _ _ _ _ c.print_all.ensures.cause c.print_all.ensures.whole c.print_all.ensures.cut
