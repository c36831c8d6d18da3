use Rattle.std.proofs.Common.{◌≡◌, map, take}
use Rattle.meaning_core1.specs.Store.{host_value}
use Rattle.run_core1.proofs.host_calls.host_values.Given as goal

abbrev pub invariant-loop-value : goal.invariant-loop-value
invariant-loop-value l = l.shown ≡ map host_value (take l.value-index l.values)
