use Rattle.std.proofs.Common.{ap}
use Rattle.wasm_ast.specs.declared.module.code.Instr.{out-Instr}
use Rattle.meaning_new.specs.Examples.{jump_of}
use Rattle.meaning_new.proofs.Layers.{done-layer, empty_call, catches, call_throws_into, tail_call_leaves, start_does_nothing, start_traps, start_halts}
use Rattle.meaning_new.proofs.examples.calls_compute.Goals as goal

pub returns-clause-indirect : goal.returns-clause-indirect
unfolding out-Instr denote.Hole.Carrier.out
returns-clause-indirect c = (empty_call, ap jump_of (done-layer _ _ _ _), ap jump_of (done-layer _ _ _ _), ap jump_of (done-layer _ _ _ _))

pub returns-clause-catches : goal.returns-clause-catches
returns-clause-catches c = (catches _, catches _, catches _, catches _, catches _)

pub returns-clause-null : goal.returns-clause-null
unfolding out-Instr denote.Hole.Carrier.out
returns-clause-null c = ap jump_of (done-layer _ _ _ _)

pub returns-clause-tails : goal.returns-clause-tails
returns-clause-tails c = (call_throws_into, tail_call_leaves)

pub returns-clause-start : goal.returns-clause-start
returns-clause-start c = (start_traps, start_does_nothing, start_halts)
