use Rattle.std.proofs.Common.{◌≡◌, map, take}
use Rattle.meaning_new.specs.Store.{to_host}
use Rattle.run_new.proofs.host_calls.host_values.Given as goal

abbrev pub invariant-loop-value : goal.invariant-loop-value
invariant-loop-value l = l.shown ≡ map to_host (take l.value-index l.values)
