use Rattle.std.proofs.Common.{◌≡◌, map, take}
use Rattle.meaning_core1.specs.Instances.{empty_table}
use Rattle.run_core1.proofs.instances.new_tables.Given as goal

abbrev pub invariant-loop-size : goal.invariant-loop-size
invariant-loop-size l = l.tables.items ≡ map empty_table (take l.size-index l.limits)
