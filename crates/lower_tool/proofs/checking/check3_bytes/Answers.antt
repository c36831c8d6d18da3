use Rattle.lower_tool.proofs.Refusals.{refused3, fine3}
use Rattle.lower_tool.proofs.checking.check3_bytes.Goals as goal

pub returns-clause-fine : goal.returns-clause-fine
returns-clause-fine c = fine3 c.args.bytes.now c.in_ok-source.source c.check3_module.result c.requires c.in_ok-source.ensures.tells c.check3_module.ensures.fine

pub returns-clause-refused : goal.returns-clause-refused
returns-clause-refused c = refused3 c.args.bytes.now c.in_ok-source.source c.check3_module.result c.requires c.in_ok-source.ensures.tells c.check3_module.ensures.refused
