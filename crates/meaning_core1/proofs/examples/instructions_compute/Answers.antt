use Rattle.std.proofs.Common.{ap}
use Rattle.core1_ast.specs.declared.module.code.Instr1.{out-Instr1}
use Rattle.meaning_core1.specs.Examples.{jump_of}
use Rattle.meaning_core1.proofs.Layers.{done-layer}
use Rattle.meaning_core1.proofs.examples.instructions_compute.Goals as goal

pub returns-clause-division : goal.returns-clause-division
unfolding out-Instr1 denote.Hole.Carrier.out
returns-clause-division c = (ap jump_of (done-layer _ _ _ _), done-layer _ _ _ _, ap jump_of (done-layer _ _ _ _))

pub returns-clause-shifts : goal.returns-clause-shifts
unfolding out-Instr1 denote.Hole.Carrier.out
returns-clause-shifts c = (done-layer _ _ _ _, done-layer _ _ _ _)

pub returns-clause-loads : goal.returns-clause-loads
unfolding out-Instr1 denote.Hole.Carrier.out
returns-clause-loads c = (done-layer _ _ _ _, ap jump_of (done-layer _ _ _ _), ap jump_of (done-layer _ _ _ _))

pub returns-clause-growths : goal.returns-clause-growths
unfolding out-Instr1 denote.Hole.Carrier.out
returns-clause-growths c = (done-layer _ _ _ _, done-layer _ _ _ _, done-layer _ _ _ _, done-layer _ _ _ _)
