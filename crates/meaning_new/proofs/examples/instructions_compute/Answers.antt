use Rattle.std.proofs.Common.{ap}
use Rattle.wasm_ast.specs.declared.module.code.Instr.{out-Instr}
use Rattle.meaning_new.specs.Examples.{jump_of}
use Rattle.meaning_new.proofs.Layers.{done-layer}
use Rattle.meaning_new.proofs.examples.instructions_compute.Goals as goal

pub returns-clause-division : goal.returns-clause-division
unfolding out-Instr denote.Hole.Carrier.out
returns-clause-division c = (ap jump_of (done-layer _ _ _ _), done-layer _ _ _ _, ap jump_of (done-layer _ _ _ _))

pub returns-clause-shifts : goal.returns-clause-shifts
unfolding out-Instr denote.Hole.Carrier.out
returns-clause-shifts c = (done-layer _ _ _ _, done-layer _ _ _ _)

pub returns-clause-loads : goal.returns-clause-loads
unfolding out-Instr denote.Hole.Carrier.out
returns-clause-loads c = (done-layer _ _ _ _, ap jump_of (done-layer _ _ _ _), ap jump_of (done-layer _ _ _ _))

pub returns-clause-copies : goal.returns-clause-copies
unfolding out-Instr denote.Hole.Carrier.out
returns-clause-copies c = (done-layer _ _ _ _, done-layer _ _ _ _, ap jump_of (done-layer _ _ _ _))

pub returns-clause-empty : goal.returns-clause-empty
unfolding out-Instr denote.Hole.Carrier.out
returns-clause-empty c = (
  done-layer _ _ _ _,
  ap jump_of (done-layer _ _ _ _),
  done-layer _ _ _ _,
  ap jump_of (done-layer _ _ _ _),
  done-layer _ _ _ _,
  ap jump_of (done-layer _ _ _ _),
  ap jump_of (done-layer _ _ _ _),
)

pub returns-clause-memories : goal.returns-clause-memories
unfolding out-Instr denote.Hole.Carrier.out
returns-clause-memories c = (done-layer _ _ _ _, done-layer _ _ _ _, done-layer _ _ _ _, done-layer _ _ _ _)

pub returns-clause-tables : goal.returns-clause-tables
unfolding out-Instr denote.Hole.Carrier.out
returns-clause-tables c = (done-layer _ _ _ _, done-layer _ _ _ _, done-layer _ _ _ _)
