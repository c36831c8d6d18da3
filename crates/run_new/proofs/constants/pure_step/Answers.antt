use Rattle.std.proofs.Common.{◌∷◌, ap, ◌∙◌}
use Rattle.run_kit.specs.declared.change.Change.TheVariants.{Take, Put, Exit}
use Rattle.machine_kit.specs.Stacks.{Stack}
use Rattle.meaning_new.specs.declared.val.Val.{Val}
use Rattle.run_new.proofs.Stepping.{stepped}
use Rattle.run_new.proofs.constants.pure_step.Goals as goal

pub returns-in-Take : goal.returns-in-Take
returns-in-Take c =
    c.drop_top.ensures
    ∙ ap (λ u. record { used = u; aside = c.args.operands.now.aside }) (stepped c.args.op c.args.operands.now.used c.top.result c.next.result c.third.result c.pure.result (Take c.in-Take.count) c.top.ensures c.next.ensures c.third.ensures c.pure.ensures c.in-Take.is)

pub returns-in_ok-push-in-Put : goal.returns-in_ok-push-in-Put
returns-in_ok-push-in-Put c =
    c.in_ok-push-in-Put.ensures
    ∙ (ap (λ (o : Stack Val). record { used = c.in-Put.value ∷ o.used; aside = o.aside }) c.drop_top-in-Put.ensures
    ∙ ap (λ u. record { used = u; aside = c.args.operands.now.aside }) (stepped c.args.op c.args.operands.now.used c.top.result c.next.result c.third.result c.pure.result (Put c.in-Put.count c.in-Put.value) c.top.ensures c.next.ensures c.third.ensures c.pure.ensures c.in-Put.is))

pub returns-in-Exit : goal.returns-in-Exit
returns-in-Exit c =
    ap (λ u. record { used = u; aside = c.args.operands.now.aside }) (stepped c.args.op c.args.operands.now.used c.top.result c.next.result c.third.result c.pure.result (Exit c.in-Exit.field-0 c.in-Exit.field-1) c.top.ensures c.next.ensures c.third.ensures c.pure.ensures c.in-Exit.is)
