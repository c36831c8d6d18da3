use Rattle.std.proofs.Common.{ap, ◌∙◌, take, reverse, arith}
use Rattle.machine_kit.specs.Stacks.{Stack}
use Rattle.machine_kit.proofs.Views.{operands-top}
use Rattle.machine_kit.proofs.operands.Operands.top.Goals as goal

pub returns : goal.returns
returns g c =
    let s = c.self.inside in
    let len = s.items.ok.0 in
    operands-top s.items.items c.deref.result.now s.start _ c.args.count (omega arith) (omega arith) c.deref.ensures.value
    ∙ ap (λ (v : Stack _). reverse (take c.args.count v.used)) c.self.view_is
