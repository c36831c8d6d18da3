use Rattle.std.proofs.Common.{ap, ◌∙◌, ◌++◌, take, drop, arith}
use Rattle.machine_kit.specs.Stacks.{Stack}
use Rattle.machine_kit.proofs.Views.{operands-restore}
use Rattle.machine_kit.proofs.operands.Operands.restore.Goals as goal

pub returns : goal.returns
returns g c =
    let s = c.self.inside in
    let len = s.items.ok.0 in
    operands-restore s.items.items _ s.base s.start _ c.args.count (omega arith) (omega arith) (omega arith) c.take_out.ensures
    ∙ ap (λ (v : Stack _). let r : Stack _ = record { used = v.used ++ take c.args.count v.aside; aside = drop c.args.count v.aside } in r) c.self.view_is
