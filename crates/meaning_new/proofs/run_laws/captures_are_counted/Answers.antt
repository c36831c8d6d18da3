use Rattle.meaning_new.proofs.RunLaws.{captures_counted, full_after_all}
use Rattle.meaning_new.proofs.run_laws.captures_are_counted.Goals as goal

pub returns-clause-few : goal.returns-clause-few
returns-clause-few c = captures_counted

pub returns-clause-full : goal.returns-clause-full
returns-clause-full c = full_after_all
