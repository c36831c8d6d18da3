use Rattle.std.proofs.Common.{◌≡◌, take}
use Rattle.core1_bytes.specs.Bodies.{locals_of}
use Rattle.core1_bytes.proofs.reading.bodies.locals_of.Given as goal

-- the locals of the groups so far
abbrev pub invariant-loop-group : goal.invariant-loop-group
invariant-loop-group l = l.locals ≡ locals_of (take l.group-index l.groups)
