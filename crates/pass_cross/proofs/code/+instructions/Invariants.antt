use Rattle.std.proofs.Common.{◌≡◌, ◌++◌, drop, map}
use Rattle.pass_cross.specs.Code.{crossed_instr}
use Rattle.pass_cross.proofs.code.+instructions.Given as goal

-- what is written so far, with what is still to come, is all
abbrev pub invariant-cross_code-loop-instr : goal.invariant-cross_code-loop-instr
invariant-cross_code-loop-instr l = l.out ++ map crossed_instr (drop l.instr-index l.code) ≡ map crossed_instr l.code
