use Rattle.std.proofs.Common.{ap, ◌∙◌, drop, arith}
use Rattle.machine_kit.specs.Stacks.{Stack}
use Rattle.machine_kit.proofs.Views.{operands-drop_top}
use Rattle.machine_kit.proofs.operands.Operands.drop_top.Goals as goal

pub returns : goal.returns
returns g c =
    let s = c.self.inside in
    let len = s.items.ok.0 in
    operands-drop_top s.items.items _ s.base s.start _ c.args.count (omega arith) (omega arith) (omega arith) c.truncate.ensures.items
    ∙ ap (λ (v : Stack _). record v { used = drop c.args.count v.used }) c.self.view_is
