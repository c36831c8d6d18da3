use Rattle.std.proofs.Common.{◌≡◌, ◌++◌, length, map, take}
use Rattle.meaning_new.specs.Store.{page_count, Table}
use Rattle.run_new.proofs.store.sizes.Given as goal

abbrev pub invariant-loop-memory : goal.invariant-loop-memory
invariant-loop-memory l = l.sizes ≡ map page_count (take l.memory-index l.memories)

abbrev pub invariant-loop-table : goal.invariant-loop-table
invariant-loop-table l = l.sizes ≡ map page_count l.memories ++ map (λ (t : Table). length t.entries) (take l.table-index l.tables)
