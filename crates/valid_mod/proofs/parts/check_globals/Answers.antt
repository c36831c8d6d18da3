use Rattle.std.proofs.Common.{refl}
use Rattle.valid_mod.specs.Parts.{Globals}
use Rattle.valid_mod.proofs.Order.{if_ok}
use Rattle.valid_mod.proofs.parts.check_globals.Goals as goal

pub returns-clause-tells : goal.returns-clause-tells
returns-clause-tells c = c.settle.ensures.tells c.args.m.now Globals refl c.requires.before c.in_ok-found.ensures.found

pub returns-clause-spaces : goal.returns-clause-spaces
returns-clause-spaces c = if_ok c.settle.result _ _ c.in_ok-found.ensures.spaces c.settle.ensures.none
