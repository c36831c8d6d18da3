use Rattle.std.proofs.Common.{ap, ◌∙◌, ◌∷◌, drop, arith}
use Rattle.machine_kit.specs.Stacks.{Stack}
use Rattle.machine_kit.proofs.Views.{operands-put}
use Rattle.machine_kit.proofs.operands.Operands.put.Goals as goal

pub returns-then-count-len : goal.returns-then-count-len
returns-then-count-len g c =
    let s = c.self.inside in
    let len = s.items.ok.0 in
    operands-put s.items.items _ s.base s.start _ c.args.count c.args.value (omega arith) (omega arith) (omega arith) (omega arith) (omega arith) c.truncate.ensures.items
    ∙ ap (λ (v : Stack _). record v { used = c.args.value ∷ drop c.args.count v.used }) c.self.view_is
