use Rattle.stage_entry.proofs.Regions.{needs_no_less}
use Rattle.stage_entry.proofs.Loads.{counts_no_less}
use Rattle.stage_entry.proofs.Entry.{may_begin}
use Rattle.stage_entry.proofs.may_begin.Goals as goal

pub returns-clause-region : goal.returns-clause-region
returns-clause-region c = needs_no_less

pub returns-clause-pages : goal.returns-clause-pages
returns-clause-pages c = counts_no_less

pub returns-clause-stage : goal.returns-clause-stage
returns-clause-stage c = may_begin
