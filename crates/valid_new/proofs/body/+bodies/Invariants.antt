use Rattle.std.proofs.Common.{◌≡◌, drop}
use Rattle.valid_new.specs.Scopes.{context_of, labels_of}
use Rattle.valid_new.proofs.Through.{Through}
use Rattle.valid_new.proofs.body.+bodies.Given as goal

abbrev pub invariant-type_code-loop-instr : goal.invariant-type_code-loop-instr
invariant-type_code-loop-instr l = record {
  labels : l.labels.items ≡ l.initial.labels.items;
  outer : l.operands.outer ≡ l.initial.operands.outer;
  through : Through (context_of l.scope) (labels_of l.labels.items) l.takes l.code (drop l.instr-index l.code) l.operands l.nodes;
}
