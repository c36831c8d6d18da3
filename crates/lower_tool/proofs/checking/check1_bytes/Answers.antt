use Rattle.lower_tool.proofs.Refusals.{refused1, fine1}
use Rattle.lower_tool.proofs.checking.check1_bytes.Goals as goal

pub returns-clause-fine : goal.returns-clause-fine
returns-clause-fine c = fine1 c.args.bytes.now c.in_ok-source.source c.check1_module.result c.requires c.in_ok-source.ensures.tells c.check1_module.ensures.fine

pub returns-clause-refused : goal.returns-clause-refused
returns-clause-refused c = refused1 c.args.bytes.now c.in_ok-source.source c.check1_module.result c.requires c.in_ok-source.ensures.tells c.check1_module.ensures.refused
