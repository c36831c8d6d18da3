use Rattle.std.proofs.Common.{◌≡◌, true, sym, subst}
use Rattle.typed_trees.specs.Typed.{module_of}
use Rattle.pass_law.specs.Needs.{needs_of}
use Rattle.pass_law.specs.Stages.{Stage}
use Rattle.pass_law.proofs.pass.Pass.lower.Goals as goal

pub lower_owned-requires-clause-takes : goal.lower_owned-requires-clause-takes
lower_owned-requires-clause-takes g c = subst (λ m. g.Self.Pass.plan.takes (needs_of (module_of m)) ≡ true) (sym c.in_ok-copy.ensures) c.requires.takes

pub lower_owned-requires-clause-stage : goal.lower_owned-requires-clause-stage
lower_owned-requires-clause-stage g c = subst (λ m. Stage (module_of m)) (sym c.in_ok-copy.ensures) c.requires.stage
