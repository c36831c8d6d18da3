use Rattle.std.proofs.Common.{◌≡◌, ◌++◌, drop, filter_map}
use Rattle.wasm_ast.specs.declared.module.parts.Import.{Import}
use Rattle.meaning_new.specs.Instances.{table_import}
use Rattle.run_new.proofs.instances.imported_tables.Given as goal

abbrev pub invariant-loop-import : goal.invariant-loop-import
invariant-loop-import l = l.tables.items ++ filter_map (λ (i : Import). table_import i.desc) (drop l.import-index l.imports) ≡ filter_map (λ (i : Import). table_import i.desc) l.imports
