use Rattle.typed_trees.specs.Typed.{module_of}
use Rattle.pass_stack.proofs.Taken.{all_linked, all_same}
use Rattle.pass_stack.proofs.pipeline.lower_module_owned.Goals as goal

pub returns-clause-linked : goal.returns-clause-linked
returns-clause-linked c =
    all_linked (module_of c.args.m) c.requires.stack c.args.settings.now.captures c.in_ok-last.last c.cross_owned.result c.tree.ensures.typed c.in_ok-last.ensures.law c.cross_owned.ensures.value c.cross_owned.ensures.crossed c.cross_owned.ensures.ranges

pub returns-clause-same : goal.returns-clause-same
returns-clause-same c =
    all_same (module_of c.args.m) c.requires.stack c.args.settings.now.captures c.in_ok-last.last c.cross_owned.result c.tree.ensures.typed c.in_ok-last.ensures.law c.cross_owned.ensures.value c.cross_owned.ensures.crossed c.cross_owned.ensures.ranges
