use Rattle.std.proofs.Common.{refl}
use Rattle.valid_mod.specs.Parts.{Start}
use Rattle.valid_mod.proofs.parts.check_start.Goals as goal

pub returns : goal.returns
returns c = c.settle.ensures.tells c.args.m.now Start refl c.requires.before c.first_start-found.ensures
