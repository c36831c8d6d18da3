use Rattle.std.proofs.Common.{ap, ◌∙◌, set}
use Rattle.machine_kit.specs.Stacks.{Stack}
use Rattle.machine_kit.proofs.Views.{locals-set}
use Rattle.machine_kit.proofs.locals.Locals.set.Goals as goal

pub returns-then-index-len : goal.returns-then-index-len
returns-then-index-len g c =
    let s = c.self.inside in
    locals-set s.items.items s.base c.args.index c.args.value
    ∙ ap (λ (v : Stack _). record v { used = set v.used c.args.index c.args.value }) c.self.view_is
