use Rattle.std.proofs.Common.{ap, ◌∙◌, drop, arith}
use Rattle.typing_kit.specs.Stack.{Stack}
use Rattle.typing_kit.proofs.Stacks.{stack-take}
use Rattle.typing_kit.proofs.operands.Operands.take.Goals as goal

pub returns : goal.returns
returns g c =
    let s = c.self.inside in
    let len = s.items.ok.0 in
    stack-take s.items.items _ s.base c.args.count _ s.dead (omega arith) (omega arith) c.truncate.ensures.items
    ∙ ap (λ (v : Stack _). record v { top = drop c.args.count v.top }) c.self.view_is
