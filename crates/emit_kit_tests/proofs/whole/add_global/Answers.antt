use Rattle.emit_kit_tests.proofs.Building.{is_typed}
use Rattle.emit_kit_tests.proofs.whole.add_global.Goals as goal

-- src/whole.rt:59:1
pub returns-in-Ok-add_global : goal.returns-in-Ok-add_global
returns-in-Ok-add_global c = λ found. is_typed c.args.emit.now c.add_global.new.self c.in-Ok.name c.requires c.in-Ok-add_global.ensures.added
