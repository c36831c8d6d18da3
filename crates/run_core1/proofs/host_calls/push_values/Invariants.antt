use Rattle.std.proofs.Common.{◌≡◌, ◌++◌, map, take, reverse}
use Rattle.machine_kit.specs.Stacks.{Stack}
use Rattle.meaning_core1.specs.declared.val1.Val1.{Val1}
use Rattle.meaning_core1.specs.Store.{value_from}
use Rattle.run_core1.proofs.host_calls.push_values.Given as goal

abbrev pub invariant-loop-value : goal.invariant-loop-value
invariant-loop-value l =
    let wanted : Stack Val1 = record { used = reverse (map value_from (take l.value-index l.values)) ++ l.fn.operands.used; aside = l.fn.operands.aside } in
    l.operands ≡ wanted
