use Rattle.std.proofs.Common.{◌≡◌, drop}
use Rattle.valid_new.specs.Scopes.{context_of, labels_of}
use Rattle.valid_new.proofs.Remaining.{Remains}
use Rattle.valid_new.proofs.deciding.+deciding.Given as goal

abbrev pub invariant-is_code_typed-loop-instr : goal.invariant-is_code_typed-loop-instr
invariant-is_code_typed-loop-instr l = record {
  labels : l.labels.items ≡ l.initial.labels.items;
  outer : l.operands.outer ≡ l.initial.operands.outer;
  remains : Remains (context_of l.scope) (labels_of l.labels.items) l.takes l.code (drop l.instr-index l.code) l.operands;
}
