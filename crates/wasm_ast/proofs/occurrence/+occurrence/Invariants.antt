use Rattle.std.proofs.Common.{◌≡◌, false, take}
use Rattle.wasm_ast.specs.Occurrence.{some_in}
use Rattle.wasm_ast.proofs.occurrence.+occurrence.Given as goal

-- none has passed so far
abbrev pub invariant-occurs_in-loop-instr : goal.invariant-occurs_in-loop-instr
invariant-occurs_in-loop-instr g l = some_in (g.T.InstrTest.test l.test) (take l.instr-index l.code) ≡ false
