use Rattle.std.proofs.Common.{ap, ◌∙◌, ◌++◌, take, drop, arith}
use Rattle.machine_kit.specs.Stacks.{Stack}
use Rattle.machine_kit.proofs.Views.{operands-keep}
use Rattle.machine_kit.proofs.operands.Operands.keep.Goals as goal

pub returns : goal.returns
returns g c =
    let s = c.self.inside in
    let len = s.items.ok.0 in
    operands-keep s.items.items _ s.base s.start c.min-kept.result c.args.count (omega arith) (omega arith) (omega arith)
    (c.take_out.ensures ∙ ap (λ n. take s.base s.items.items ++ drop n s.items.items) (omega arith))
    ∙ ap (λ (v : Stack _). record v { used = take c.args.count v.used }) c.self.view_is
