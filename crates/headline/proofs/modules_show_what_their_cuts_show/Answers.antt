use Rattle.headline.proofs.Cuts.{cuts_are_linked_alike, cuts_are_same}
use Rattle.headline.proofs.modules_show_what_their_cuts_show.Goals as goal

pub returns-clause-same : goal.returns-clause-same
returns-clause-same c = cuts_are_same

pub returns-clause-linked : goal.returns-clause-linked
returns-clause-linked c = cuts_are_linked_alike
