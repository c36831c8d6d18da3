use Rattle.valid_new.proofs.Matching.{unequal}
use Rattle.valid_new.proofs.types.all_match.Goals as goal

pub returns-then-given-wanted : goal.returns-then-given-wanted
returns-then-given-wanted c = unequal c.args.given.now c.args.wanted.now (c.if-given-wanted.true)
