use Rattle.std.proofs.Common.{◌≡◌, ◌<◌, ◌^◌, take}
use Rattle.read_new.specs.Bodies.{locals_count}
use Rattle.read_new.proofs.parts.bodies.are_countable.Given as goal

-- how many locals the groups so far declare
abbrev pub invariant-loop-group : goal.invariant-loop-group
invariant-loop-group l = (l.total < 2 ^ 32) × (l.total ≡ locals_count (take l.group-index l.groups))
