use Rattle.valid_core1.proofs.Deciding.{global_decided}
use Rattle.valid_core1.proofs.parts.globals.GlobalTestPartTest.is_typed.Goals as goal

pub returns : goal.returns
returns c = global_decided c.args.self.now.module.now c.global_is_typed.result c.args.global.now _ c.requires c.global_is_typed.ensures
