use Rattle.std.proofs.Common.{take}
use Rattle.std.specs.List.{AllByRecursion}
use Rattle.wasm_ast.specs.declared.module.parts.Segment.{Segment}
use Rattle.pass_plain.specs.Constants.{ModeInRange}
use Rattle.pass_plain.proofs.folding.ranges.datas_in_range.Given as goal

abbrev pub invariant-loop-data : goal.invariant-loop-data
invariant-loop-data l = AllByRecursion (λ (d : Segment). ModeInRange d.mode) (take l.data-index l.datas)
