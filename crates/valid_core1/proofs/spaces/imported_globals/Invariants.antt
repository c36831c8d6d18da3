use Rattle.std.proofs.Common.{◌≡◌, ◌++◌, drop, map, filter_map}
use Rattle.core1_ast.specs.declared.module.parts.Import1.{Import1}
use Rattle.core1_ast.specs.Spaces.{global_import}
use Rattle.valid_core1.specs.Scopes.{global_type}
use Rattle.valid_core1.proofs.spaces.imported_globals.Given as goal

abbrev pub invariant-loop-import : goal.invariant-loop-import
invariant-loop-import l = map global_type l.globals ++ filter_map (λ (i : Import1). global_import i.desc) (drop l.import-index l.imports) ≡ filter_map (λ (i : Import1). global_import i.desc) l.imports
