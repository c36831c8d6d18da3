use Rattle.std.proofs.Common.{◌≡◌, ◌++◌, length, map, take}
use Rattle.meaning_core1.specs.Store.{pages1}
use Rattle.run_core1.proofs.state.sizes.Given as goal

abbrev pub invariant-loop-memory : goal.invariant-loop-memory
invariant-loop-memory l = l.sizes ≡ map pages1 (take l.memory-index l.memories)

abbrev pub invariant-loop-table : goal.invariant-loop-table
invariant-loop-table l = l.sizes ≡ map pages1 l.memories ++ map length (take l.table-index l.tables)
