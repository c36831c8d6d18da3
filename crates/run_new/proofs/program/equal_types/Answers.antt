use Rattle.std.proofs.Common.{◌∙◌}
use Rattle.run_new.proofs.Keys.{all}
use Rattle.run_new.proofs.program.equal_types.Goals as goal

pub returns : goal.returns
returns c = c.eq.ensures ∙ all c.args.left.now c.args.right.now
