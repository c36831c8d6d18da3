use Rattle.std.proofs.lemmas.Result.{IfOk-weaker}
use Rattle.pass_cross.specs.Crossable.{Crossable}
use Rattle.pass_law.specs.Law.{Law}
use Rattle.typed_trees.specs.Typed.{module_of}
use Rattle.pass_stack.specs.Pipeline.{pipeline}
use Rattle.pass_stack.proofs.Taken.{stages_take, stands_first, crosses_last}
use Rattle.pass_stack.proofs.pipeline.lower_stages.Goals as goal

pub lower_owned-requires-clause-takes : goal.lower_owned-requires-clause-takes
lower_owned-requires-clause-takes c = stages_take (module_of c.args.m) c.requires.stack

pub lower_owned-requires-clause-stage : goal.lower_owned-requires-clause-stage
lower_owned-requires-clause-stage c = stands_first (module_of c.args.m) c.requires.stack

pub returns-clause-crossable : goal.returns-clause-crossable
returns-clause-crossable c =
    let m = module_of c.args.m in
    let captures = c.args.settings.now.captures in
    IfOk-weaker c.lower_owned.result (λ o. Law pipeline m (module_of o) captures) (λ o. Crossable (module_of o)) (λ o law. crosses_last m c.requires.stack (module_of o) captures law) c.lower_owned.ensures.law
