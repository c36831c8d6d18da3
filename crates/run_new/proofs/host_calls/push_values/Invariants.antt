use Rattle.std.proofs.Common.{◌≡◌, ◌++◌, map, take, reverse}
use Rattle.machine_kit.specs.Stacks.{Stack}
use Rattle.meaning_new.specs.declared.val.Val.{Val}
use Rattle.meaning_new.specs.Store.{from_host}
use Rattle.run_new.proofs.host_calls.push_values.Given as goal

abbrev pub invariant-loop-value : goal.invariant-loop-value
invariant-loop-value l =
    let wanted : Stack Val = record { used = reverse (map from_host (take l.value-index l.values)) ++ l.fn.operands.used; aside = l.fn.operands.aside } in
    l.operands ≡ wanted
