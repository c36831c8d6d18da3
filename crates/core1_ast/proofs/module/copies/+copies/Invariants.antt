use Rattle.std.proofs.Common.{◌≡◌, take}
use Rattle.core1_ast.proofs.module.copies.+copies.Given as goal

-- what is copied so far
abbrev pub invariant-copy_of-loop-instr : goal.invariant-copy_of-loop-instr
invariant-copy_of-loop-instr l = l.copy ≡ take l.instr-index l.code
