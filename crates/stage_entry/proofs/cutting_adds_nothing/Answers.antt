use Rattle.stage_entry.proofs.Inside.{cut_has_no_more, cut_lies_in_profile, cut_is_linked_alike}
use Rattle.stage_entry.proofs.cutting_adds_nothing.Goals as goal

pub returns-clause-needs : goal.returns-clause-needs
returns-clause-needs c = cut_has_no_more

pub returns-clause-profile : goal.returns-clause-profile
returns-clause-profile c = cut_lies_in_profile

pub returns-clause-linked : goal.returns-clause-linked
returns-clause-linked c = cut_is_linked_alike
