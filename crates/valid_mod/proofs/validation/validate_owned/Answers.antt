use Rattle.std.proofs.Common.{◌≡◌, [], Ok, Err, rules, ap, sym, subst, ◌∙◌}
use Rattle.valid_mod.specs.Bodies.{filled, BodiesTyped}
use Rattle.valid_mod.specs.Standing.{StandsFor}
use Rattle.valid_mod.specs.Verdict.{Tells, verdict_of}
use Rattle.valid_mod.proofs.Standing.{whole_tree, stands}
use Rattle.valid_mod.proofs.ReachableRuns.{same_runs}
use Rattle.valid_mod.proofs.Unique.{only_answer}
use Rattle.valid_mod.proofs.validation.validate_owned.Goals as goal
use Rattle.valid_mod.proofs.validation.validate_owned.Goals.{After-from_residual, In_ok-fns}

-- the parts with the bodies that were taken out are the module
untold : (c : After-from_residual) → Tells c.args.m (verdict_of c.from_residual.result)
untold c =
    let m = c.args.m in
    let fault = c.in_err-fns.field-0.0 in
    let is : c.from_residual.result ≡ Err fault = search rules in
    subst (λ r. Tells m (verdict_of r)) (sym is) (subst (λ l. Tells (filled m l) (Err fault)) c.replace-bodies.ensures.value c.in_err-fns.ensures)

typed : (c : In_ok-fns) → BodiesTyped c.args.m c.in_ok-fns.fns
typed c = subst (λ l. BodiesTyped (filled c.args.m l) c.in_ok-fns.fns) c.replace-bodies.ensures.value c.in_ok-fns.ensures

bare : (c : In_ok-fns) → filled c.args.m c.replace-bodies.new.dest ≡ filled c.args.m []
bare c = ap (filled c.args.m) (c.replace-bodies.ensures.after ∙ c.new.ensures)

stood : (c : In_ok-fns) → StandsFor c.args.m (filled c.args.m c.replace-bodies.new.dest, c.in_ok-fns.fns)
stood c = stands c.args.m c.in_ok-fns.fns (typed c) (filled c.args.m c.replace-bodies.new.dest) (bare c)

pub returns-in_err-fns-clause-tells : goal.returns-in_err-fns-clause-tells
returns-in_err-fns-clause-tells c = untold (goal.at.returns-in_err-fns-clause-tells c).After-from_residual

pub returns-in_err-fns-clause-only : goal.returns-in_err-fns-clause-only
returns-in_err-fns-clause-only c = λ other h. only_answer c.args.m (verdict_of c.from_residual.result) other (untold (goal.at.returns-in_err-fns-clause-only c).After-from_residual) h

pub build-requires : goal.build-requires
build-requires c =
    let at = (goal.at.build-requires c).In_ok-fns in
    whole_tree c.args.m c.in_ok-fns.fns (typed at) (filled c.args.m c.replace-bodies.new.dest) (bare at)

pub returns-clause-tells : goal.returns-clause-tells
returns-clause-tells c = (typed (goal.at.returns-clause-tells c).In_ok-fns).typed

pub returns-clause-stands : goal.returns-clause-stands
returns-clause-stands c = subst (StandsFor c.args.m) (sym c.build.ensures) (stood (goal.at.returns-clause-stands c).In_ok-fns)

pub returns-clause-meaning : goal.returns-clause-meaning
returns-clause-meaning c = same_runs c.args.m c.build.result (subst (StandsFor c.args.m) (sym c.build.ensures) (stood (goal.at.returns-clause-meaning c).In_ok-fns))

pub returns-clause-only : goal.returns-clause-only
returns-clause-only c = λ other h. only_answer c.args.m (Ok tt) other (typed (goal.at.returns-clause-only c).In_ok-fns).typed h
