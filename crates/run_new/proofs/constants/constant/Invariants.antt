use Rattle.std.proofs.Common.{◌≡◌, [], drop}
use Rattle.meaning_new.specs.Instances.{constant_steps}
use Rattle.run_new.proofs.constants.constant.Given as goal

abbrev pub invariant-loop-instr : goal.invariant-loop-instr
invariant-loop-instr l = constant_steps l.globals (drop l.instr-index l.code) l.operands.used ≡ constant_steps l.globals l.code []
