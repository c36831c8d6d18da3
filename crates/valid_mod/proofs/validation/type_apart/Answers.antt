use Rattle.std.proofs.Common.{◌≡◌, Err, rules, sym, subst}
use Rattle.valid_mod.specs.Bodies.{filled, TellsOfBodies}
use Rattle.valid_mod.proofs.Filling.{sections_filled, sections_tell}
use Rattle.valid_mod.proofs.validation.type_apart.Goals as goal

pub returns-in_err-spaces : goal.returns-in_err-spaces
returns-in_err-spaces c =
    let fault = c.in_err-spaces.field-0.0 in
    let is : c.from_residual.result ≡ Err fault = search rules in
    subst (TellsOfBodies (filled c.args.parts.now c.args.bodies)) (sym is) (sections_tell c.args.parts.now c.args.bodies c.requires.none 11 (Err fault) c.in_err-spaces.ensures.tells)

pub type_owned_bodies-requires-clause-parts : goal.type_owned_bodies-requires-clause-parts
type_owned_bodies-requires-clause-parts c = sections_filled c.args.parts.now c.args.bodies c.in_ok-spaces.ensures.tells
