use Rattle.std.proofs.Common.{◌≡◌, take, ◌++◌, map}
use Rattle.typed_trees.specs.Modules.{imported_of, table_import}
use Rattle.valid_new.proofs.spaces.all_tables.Given as goal

abbrev pub invariant-loop-table : goal.invariant-loop-table
invariant-loop-table l = l.types.items ≡ imported_of table_import l.m ++ map (λ t. t.ty) (take l.table-index l.m.tables)
