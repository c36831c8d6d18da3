use Rattle.std.proofs.Common.{◌≡◌, take}
use Rattle.read_new.specs.Bodies.{locals_of}
use Rattle.read_new.proofs.parts.bodies.locals_of.Given as goal

-- the locals of the groups so far
abbrev pub invariant-loop-group : goal.invariant-loop-group
invariant-loop-group l = l.locals ≡ locals_of (take l.group-index l.groups)
