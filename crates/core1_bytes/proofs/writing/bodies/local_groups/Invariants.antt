use Rattle.std.proofs.Common.{◌≡◌, take}
use Rattle.core1_bytes.specs.Appends.{declared}
use Rattle.core1_bytes.proofs.writing.bodies.local_groups.Given as goal

-- the locals so far are declared
abbrev pub invariant-loop-local : goal.invariant-loop-local
invariant-loop-local l = declared l.groups l.last ≡ take l.local-index l.locals
