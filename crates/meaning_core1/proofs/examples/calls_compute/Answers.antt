use Rattle.std.proofs.Common.{ap}
use Rattle.core1_ast.specs.declared.module.code.Instr1.{out-Instr1}
use Rattle.meaning_core1.specs.Examples.{jump_of}
use Rattle.meaning_core1.proofs.Layers.{done-layer, empty_call, start_does_nothing, start_traps, start_halts}
use Rattle.meaning_core1.proofs.examples.calls_compute.Goals as goal

pub returns-clause-indirect : goal.returns-clause-indirect
unfolding out-Instr1 denote.Hole.Carrier.out
returns-clause-indirect c = (empty_call, ap jump_of (done-layer _ _ _ _), ap jump_of (done-layer _ _ _ _), ap jump_of (done-layer _ _ _ _))

pub returns-clause-start : goal.returns-clause-start
returns-clause-start c = (start_traps, start_does_nothing, start_halts)
