use Rattle.std.proofs.Common.{◌≡◌, map, take}
use Rattle.meaning_core1.specs.Store.{value_from}
use Rattle.run_core1.proofs.instances.imported_values.Given as goal

abbrev pub invariant-loop-value : goal.invariant-loop-value
invariant-loop-value l = l.globals.items ≡ map value_from (take l.value-index l.values)
