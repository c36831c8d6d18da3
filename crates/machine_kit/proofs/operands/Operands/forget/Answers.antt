use Rattle.std.proofs.Common.{ap, ◌∙◌, drop, arith}
use Rattle.machine_kit.specs.Stacks.{Stack}
use Rattle.machine_kit.proofs.Views.{operands-forget}
use Rattle.machine_kit.proofs.operands.Operands.forget.Goals as goal

pub returns : goal.returns
returns g c =
    let s = c.self.inside in
    let len = s.items.ok.0 in
    operands-forget s.items.items s.base s.start _ c.args.count (omega arith) (omega arith) (omega arith)
    ∙ ap (λ (v : Stack _). record v { aside = drop c.args.count v.aside }) c.self.view_is
