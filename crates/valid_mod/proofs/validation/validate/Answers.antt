use Rattle.std.proofs.Common.{Ok, rules, sym, subst}
use Rattle.valid_mod.specs.Standing.{StandsFor}
use Rattle.valid_mod.specs.Verdict.{Tells, verdict_of}
use Rattle.valid_mod.proofs.Standing.{whole_tree, stands}
use Rattle.valid_mod.proofs.ReachableRuns.{same_runs}
use Rattle.valid_mod.proofs.Unique.{only_answer}
use Rattle.valid_mod.proofs.validation.validate.Goals as goal

pub build-requires : goal.build-requires
build-requires c = whole_tree c.args.m.now c.in_ok-fns.fns c.in_ok-fns.ensures c.in_ok-parts.parts c.in_ok-parts.ensures

pub returns-in_err-fns-clause-only : goal.returns-in_err-fns-clause-only
returns-in_err-fns-clause-only c =
    let tells : Tells c.args.m.now (verdict_of c.from_residual.result) = search rules in
    λ other h. only_answer c.args.m.now (verdict_of c.from_residual.result) other tells h

pub returns-clause-stands : goal.returns-clause-stands
returns-clause-stands c =
    let m = c.args.m.now in
    subst (StandsFor m) (sym c.build.ensures) (stands m c.in_ok-fns.fns c.in_ok-fns.ensures c.in_ok-parts.parts c.in_ok-parts.ensures)

pub returns-clause-only : goal.returns-clause-only
returns-clause-only c = λ other h. only_answer c.args.m.now (Ok tt) other c.in_ok-fns.ensures.typed h

pub returns-clause-meaning : goal.returns-clause-meaning
returns-clause-meaning c =
    let m = c.args.m.now in
    same_runs m _ (subst (StandsFor m) (sym c.build.ensures) (stands m c.in_ok-fns.fns c.in_ok-fns.ensures c.in_ok-parts.parts c.in_ok-parts.ensures))
