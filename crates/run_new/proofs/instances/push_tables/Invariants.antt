use Rattle.std.proofs.Common.{◌≡◌, ◌++◌, map, take}
use Rattle.wasm_ast.specs.declared.module.parts.Table.{Table}
use Rattle.meaning_new.specs.Instances.{first_entry, new_table}
use Rattle.run_new.proofs.instances.push_tables.Given as goal

abbrev pub invariant-loop-table : goal.invariant-loop-table
invariant-loop-table l = l.tables.items ≡ l.fn.tables.items ++ map (λ (t : Table). new_table (first_entry l.globals t.ty t.init) t.limits) (take l.table-index l.own)
