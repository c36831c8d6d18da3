use Rattle.std.proofs.Common.{◌≡◌, ◌++◌, drop, filter_map}
use Rattle.core1_ast.specs.declared.module.parts.Import1.{Import1}
use Rattle.core1_ast.specs.Spaces.{func_import}
use Rattle.run_core1.proofs.program.imported_funcs.Given as goal

abbrev pub invariant-loop-import : goal.invariant-loop-import
invariant-loop-import l = l.funcs.items ++ filter_map (λ (i : Import1). func_import i.desc) (drop l.import-index l.imports) ≡ filter_map (λ (i : Import1). func_import i.desc) l.imports
