use Rattle.valid_core1.proofs.Deciding.{element_decided}
use Rattle.valid_core1.proofs.parts.segments.ElementTestPartTest.is_typed.Goals as goal

pub returns : goal.returns
returns c = element_decided c.args.self.now.module.now c.args.self.now.spaces.now c.requires c.element_is_typed.result c.args.element.now c.element_is_typed.ensures
