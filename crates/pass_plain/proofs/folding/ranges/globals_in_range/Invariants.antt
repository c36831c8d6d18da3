use Rattle.std.proofs.Common.{take}
use Rattle.std.specs.List.{AllByRecursion}
use Rattle.wasm_ast.specs.declared.module.parts.Global.{Global}
use Rattle.pass_plain.specs.Constants.{CodeInRange}
use Rattle.pass_plain.proofs.folding.ranges.globals_in_range.Given as goal

abbrev pub invariant-loop-global : goal.invariant-loop-global
invariant-loop-global l = AllByRecursion (λ (g : Global). CodeInRange g.init) (take l.global-index l.globals)
