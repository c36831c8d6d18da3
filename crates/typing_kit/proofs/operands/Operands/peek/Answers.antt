use Rattle.std.proofs.Common.{ap, ◌∙◌, sym, drop, arith, get_or}
use Rattle.typing_kit.specs.Stack.{Stack}
use Rattle.typing_kit.specs.Steps.{topmost}
use Rattle.typing_kit.proofs.Stacks.{topmost-within}
use Rattle.typing_kit.proofs.operands.Operands.peek.Goals as goal

pub returns-then-skip-len : goal.returns-then-skip-len
returns-then-skip-len g c =
    let s = c.self.inside in
    let len = s.items.ok.0 in
    sym (topmost-within s.items.items s.base c.args.skip s.dead c.index.result.now (omega arith) (omega arith) (c.index.ensures ∙ ap (λ i. get_or s.items.items i c.index.result.now) (omega arith)))
    ∙ ap (λ (v : Stack _). topmost v.dead (drop c.args.skip v.top)) c.self.view_is
