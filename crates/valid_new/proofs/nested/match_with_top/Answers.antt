use Rattle.valid_new.proofs.Matching.{all_match_of_nothing}
use Rattle.valid_new.proofs.nested.match_with_top.Goals as goal

pub returns-in-None : goal.returns-in-None
returns-in-None c = all_match_of_nothing c.args.types.now c.args.top c.args.wanted.now c.in-None.ensures.cases
