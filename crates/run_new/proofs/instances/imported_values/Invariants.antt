use Rattle.std.proofs.Common.{◌≡◌, map, take}
use Rattle.meaning_new.specs.Store.{from_host}
use Rattle.run_new.proofs.instances.imported_values.Given as goal

abbrev pub invariant-loop-value : goal.invariant-loop-value
invariant-loop-value l = l.globals.items ≡ map from_host (take l.value-index l.values)
