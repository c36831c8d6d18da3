use Rattle.headline.proofs.ToldApart.{extending_extends, shifting_extends, import_unanswered}
use Rattle.headline.proofs.computes.Goals as goal

pub returns-clause-extending : goal.returns-clause-extending
returns-clause-extending c = extending_extends

pub returns-clause-shifting : goal.returns-clause-shifting
returns-clause-shifting c = shifting_extends

pub returns-clause-imported : goal.returns-clause-imported
returns-clause-imported c = import_unanswered
