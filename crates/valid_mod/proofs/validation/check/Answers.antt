use Rattle.std.proofs.Common.{rules}
use Rattle.valid_mod.specs.Verdict.{Tells}
use Rattle.valid_mod.proofs.Order.{all_sections}
use Rattle.valid_mod.proofs.Unique.{only_answer}
use Rattle.valid_mod.proofs.validation.check.Goals as goal

pub check_bodies-requires-clause-parts : goal.check_bodies-requires-clause-parts
check_bodies-requires-clause-parts c = all_sections c.args.m.now c.in_ok-spaces.ensures.tells

pub returns-in_err-spaces-clause-only : goal.returns-in_err-spaces-clause-only
returns-in_err-spaces-clause-only c =
    let tells : Tells c.args.m.now c.from_residual.result = search rules in
    λ other h. only_answer c.args.m.now c.from_residual.result other tells h

pub returns-clause-only : goal.returns-clause-only
returns-clause-only c = λ other h. only_answer c.args.m.now c.check_bodies.result other c.check_bodies.ensures h
