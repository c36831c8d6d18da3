use Rattle.std.proofs.Common.{◌≡◌, ◌<◌, ◌^◌, take}
use Rattle.core1_bytes.specs.Bodies.{locals_count}
use Rattle.core1_bytes.proofs.reading.bodies.are_countable.Given as goal

-- how many locals the groups so far declare
abbrev pub invariant-loop-group : goal.invariant-loop-group
invariant-loop-group l = (l.total < 2 ^ 32) × (l.total ≡ locals_count (take l.group-index l.groups))
