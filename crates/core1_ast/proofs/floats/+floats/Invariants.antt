use Rattle.std.proofs.Common.{◌≡◌, false, take}
use Rattle.core1_ast.specs.Floats.{code_has_float}
use Rattle.core1_ast.proofs.floats.+floats.Given as goal

-- none has a float so far
abbrev pub invariant-code_has-loop-instr : goal.invariant-code_has-loop-instr
invariant-code_has-loop-instr l = code_has_float (take l.instr-index l.code) ≡ false
