use Rattle.std.proofs.Common.{ap, ◌∙◌, ◌++◌, take, drop, length, arith}
use Rattle.machine_kit.specs.Stacks.{Stack}
use Rattle.machine_kit.proofs.Views.{operands-set_aside, operands-aside_count}
use Rattle.machine_kit.proofs.operands.Operands.set_aside.Goals as goal

pub returns-clause-stack : goal.returns-clause-stack
returns-clause-stack g c =
    let s = c.self.inside in
    let len = s.items.ok.0 in
    let new = c.take_out.new.items.ok.0 in
    operands-set_aside s.items.items c.take_out.new.items.items s.base s.start _ c.args.count (omega arith) (omega arith) (omega arith) c.take_out.ensures
    ∙ ap (λ (v : Stack _). let r : Stack _ = record { used = take c.args.count v.used; aside = drop c.args.count v.used ++ v.aside } in r) c.self.view_is

pub returns-clause-aside : goal.returns-clause-aside
returns-clause-aside g c =
    let s = c.self.inside in
    let len = s.items.ok.0 in
    let new = c.take_out.new.items.ok.0 in
    operands-aside_count s.items.items c.take_out.new.items.items s.base s.start _ c.args.count (omega arith) (omega arith) (omega arith) c.take_out.ensures
    ∙ ap (λ (v : Stack _). length (drop c.args.count v.used)) c.self.view_is
