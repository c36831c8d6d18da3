use Rattle.std.proofs.Common.{take}
use Rattle.std.specs.List.{AllByRecursion}
use Rattle.wasm_ast.specs.declared.module.parts.Element.{Element}
use Rattle.pass_plain.specs.Constants.{ModeInRange}
use Rattle.pass_plain.proofs.folding.ranges.elems_in_range.Given as goal

abbrev pub invariant-loop-elem : goal.invariant-loop-elem
invariant-loop-elem l = AllByRecursion (λ (e : Element). ModeInRange e.mode) (take l.elem-index l.elems)
