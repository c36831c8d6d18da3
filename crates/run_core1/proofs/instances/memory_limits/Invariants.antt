use Rattle.std.proofs.Common.{◌≡◌, ◌++◌, drop, filter_map}
use Rattle.core1_ast.specs.declared.module.parts.Import1.{Import1}
use Rattle.core1_ast.specs.Spaces.{memory_import}
use Rattle.run_core1.proofs.instances.memory_limits.Given as goal

abbrev pub invariant-loop-import : goal.invariant-loop-import
invariant-loop-import l = l.limits.items ++ filter_map (λ (i : Import1). memory_import i.desc) (drop l.import-index l.import-items) ≡ filter_map (λ (i : Import1). memory_import i.desc) l.source.imports
