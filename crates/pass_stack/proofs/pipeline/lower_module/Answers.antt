use Rattle.std.proofs.Common.{◌≡◌, None, sym, subst}
use Rattle.typed_trees.specs.Typed.{module_of}
use Rattle.pass_stack.specs.Profile.{outside_stack}
use Rattle.pass_stack.proofs.pipeline.lower_module.Goals as goal

pub lower_module_owned-requires-clause-stack : goal.lower_module_owned-requires-clause-stack
lower_module_owned-requires-clause-stack c = subst (λ m. outside_stack (module_of m) ≡ None) (sym c.in_ok-copy.ensures) c.requires.stack
