use Rattle.std.proofs.Common.{◌≡◌, map, take}
use Rattle.meaning_core1.specs.Instances.{zero_memory}
use Rattle.run_core1.proofs.instances.new_memories.Given as goal

abbrev pub invariant-loop-size : goal.invariant-loop-size
invariant-loop-size l = l.memories.items ≡ map zero_memory (take l.size-index l.limits)
