use Rattle.std.proofs.Common.{◌≡◌, take}
use Rattle.wasm_ast.specs.Facts.{with_code}
use Rattle.wasm_ast.proofs.facts.+noting.Given as goal

-- what the code shows so far is noted
abbrev pub invariant-note_code-loop-instr : goal.invariant-note_code-loop-instr
invariant-note_code-loop-instr l = l.facts ≡ with_code (take l.instr-index l.code) l.initial.facts
