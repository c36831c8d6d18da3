use Rattle.pass_stack.specs.Profile.{outside_stack}
use Rattle.lower_tool.proofs.Refusals.{typed_by, untyped_by}
use Rattle.lower_tool.proofs.checking.type_to_lower.Goals as goal

pub returns-clause-fine : goal.returns-clause-fine
returns-clause-fine c = typed_by outside_stack c.args.source c.type_owned.result c.in_ok-check_stack.ensures.fine c.type_owned.ensures.fine

pub returns-clause-refused : goal.returns-clause-refused
returns-clause-refused c = untyped_by outside_stack c.args.source c.type_owned.result c.in_ok-check_stack.ensures.fine c.type_owned.ensures.refused
