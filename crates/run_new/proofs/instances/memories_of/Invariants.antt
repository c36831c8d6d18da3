use Rattle.std.proofs.Common.{◌≡◌, map, take}
use Rattle.meaning_new.specs.Instances.{new_memory}
use Rattle.run_new.proofs.instances.memories_of.Given as goal

abbrev pub invariant-loop-size : goal.invariant-loop-size
invariant-loop-size l = l.memories.items ≡ map new_memory (take l.size-index l.limits)
