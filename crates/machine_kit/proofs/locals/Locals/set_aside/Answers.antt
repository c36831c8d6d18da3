use Rattle.std.proofs.Common.{ap, ◌∙◌, [], ◌++◌, reverse, arith}
use Rattle.machine_kit.specs.Stacks.{Stack}
use Rattle.machine_kit.proofs.Views.{locals-set_aside}
use Rattle.machine_kit.proofs.locals.Locals.set_aside.Goals as goal

pub returns-clause-stack : goal.returns-clause-stack
returns-clause-stack g c =
    let s = c.self.inside in
    let len = s.items.ok.0 in
    locals-set_aside s.items.items s.base _ (omega arith)
    ∙ ap (λ (v : Stack _). let r : Stack _ = record { used = []; aside = reverse v.used ++ v.aside } in r) c.self.view_is
