use Rattle.std.proofs.Common.{take}
use Rattle.pass_plain.specs.Constants.{CodeInRange}
use Rattle.pass_plain.proofs.folding.ranges.code_in_range.Given as goal

-- the instructions so far
abbrev pub invariant-loop-instr : goal.invariant-loop-instr
invariant-loop-instr l = CodeInRange (take l.instr-index l.code)
