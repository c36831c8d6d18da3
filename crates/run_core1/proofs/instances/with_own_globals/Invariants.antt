use Rattle.std.proofs.Common.{◌≡◌, ◌++◌, map, take}
use Rattle.core1_ast.specs.declared.module.parts.Global1.{Global1}
use Rattle.meaning_core1.specs.Instances.{const_value}
use Rattle.run_core1.proofs.instances.with_own_globals.Given as goal

abbrev pub invariant-loop-global : goal.invariant-loop-global
invariant-loop-global l = l.globals.items ≡ l.fn.imported.items ++ map (λ (g : Global1). const_value l.fn.imported.items g.init) (take l.global-index l.own)
