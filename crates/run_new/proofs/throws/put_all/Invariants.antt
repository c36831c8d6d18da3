use Rattle.std.proofs.Common.{◌≡◌, take, reverse}
use Rattle.machine_kit.specs.Stacks.{Stack}
use Rattle.meaning_new.specs.declared.val.Val.{Val}
use Rattle.run_new.proofs.throws.put_all.Given as goal

abbrev pub invariant-loop-value : goal.invariant-loop-value
invariant-loop-value l =
    let wanted : Stack Val = record { used = reverse (take l.value-index l.values); aside = l.fn.operands.aside } in
    l.operands ≡ wanted
