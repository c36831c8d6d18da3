use Rattle.valid_mod.proofs.Order.{all_sections}
use Rattle.valid_mod.proofs.validation.type_module.Goals as goal

pub type_bodies-requires-clause-parts : goal.type_bodies-requires-clause-parts
type_bodies-requires-clause-parts c = all_sections c.args.m.now c.in_ok-spaces.ensures.tells
