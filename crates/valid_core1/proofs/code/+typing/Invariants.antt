use Rattle.std.proofs.Common.{◌≡◌, ◌↔◌, drop}
use Rattle.core1_ast.specs.Operands.{block_results}
use Rattle.typing_kit.specs.Matching.{known}
use Rattle.typing_kit.specs.Progress.{From}
use Rattle.valid_core1.specs.Forms.{language}
use Rattle.valid_core1.specs.Scopes.{context_of, label_types}
use Rattle.valid_core1.specs.Checks.{IsInside}
use Rattle.valid_core1.proofs.code.+typing.Given as goal

-- what is left is typed exactly where the code is
abbrev pub invariant-check_code-loop-instr : goal.invariant-check_code-loop-instr
invariant-check_code-loop-instr l = record {
  labels : l.labels ≡ l.initial.labels;
  outer : l.operands.outer ≡ l.initial.operands.outer;
  typed : From (language (context_of l.scope)) (label_types l.labels) l.operands.dead l.operands.top (drop l.instr-index l.code) (known (block_results l.ty)) ↔ IsInside l.scope l.fn.labels l.fn.label l.ty l.code;
}
