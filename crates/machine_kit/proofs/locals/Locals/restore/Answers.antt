use Rattle.std.proofs.Common.{ap, ◌∙◌, reverse, take, drop, arith}
use Rattle.machine_kit.specs.Stacks.{Stack}
use Rattle.machine_kit.proofs.Views.{locals-restore}
use Rattle.machine_kit.proofs.locals.Locals.restore.Goals as goal

pub returns : goal.returns
returns g c =
    let s = c.self.inside in
    let len = s.items.ok.0 in
    locals-restore s.items.items _ s.base _ c.args.count (omega arith) (omega arith) c.truncate.ensures.items
    ∙ ap (λ (v : Stack _). let r : Stack _ = record { used = reverse (take c.args.count v.aside); aside = drop c.args.count v.aside } in r) c.self.view_is
