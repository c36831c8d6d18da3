use Rattle.std.proofs.Common.{◌≡◌, take}
use Rattle.wasm_ast.specs.Kept.{called_in}
use Rattle.wasm_ast.specs.Marking.{marked}
use Rattle.wasm_ast.proofs.kept.used.+marking.Given as goal

-- those that are called by so far are marked
abbrev pub invariant-mark_code-loop-instr : goal.invariant-mark_code-loop-instr
invariant-mark_code-loop-instr l = l.used ≡ marked (called_in (take l.instr-index l.code)) l.initial.used
