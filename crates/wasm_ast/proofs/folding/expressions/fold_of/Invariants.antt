use Rattle.std.proofs.Common.{◌≡◌, [], drop, reverse}
use Rattle.wasm_ast.specs.Fold.{after_code}
use Rattle.wasm_ast.proofs.folding.expressions.fold_of.Given as goal

-- the rest of the code goes on from the stack so far
abbrev pub invariant-loop-instr : goal.invariant-loop-instr
invariant-loop-instr l = after_code l.known l.code [] ≡ after_code l.known (drop l.instr-index l.code) (reverse l.stack.items)
