use Rattle.std.proofs.Common.{ap, ◌∙◌}
use Rattle.emit_kit.specs.FirstTypes.{index_at}
use Rattle.emit_kit.proofs.Found.{found_in}
use Rattle.emit_kit.proofs.first_types.FirstTypes.get.Goals as goal

pub returns : goal.returns
returns c = c.copied.ensures ∙ c.get.ensures.value ∙ found_in c.args.key.now c.self.inside.indices.entries ∙ ap (index_at c.args.key.now) c.self.view_is
