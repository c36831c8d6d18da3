use Rattle.std.proofs.Common.{◌≡◌, ◌++◌, drop, map}
use Rattle.crossing.specs.Modules.{cross_limits}
use Rattle.pass_cross.proofs.parts.cross_memories.Given as goal

-- what is written so far, with what is still to come, is all
abbrev pub invariant-loop-memory : goal.invariant-loop-memory
invariant-loop-memory l = l.out ++ map cross_limits (drop l.memory-index l.memories) ≡ map cross_limits l.memories
