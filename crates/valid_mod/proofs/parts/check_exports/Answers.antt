use Rattle.std.proofs.Common.{refl}
use Rattle.valid_mod.specs.Parts.{Exports}
use Rattle.valid_mod.proofs.parts.check_exports.Goals as goal

pub returns : goal.returns
returns c = c.settle.ensures.tells c.args.m.now Exports refl c.requires.before c.in_ok-found.ensures
