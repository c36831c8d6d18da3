use Rattle.std.proofs.Common.{◌≡◌, ◌++◌, replicate}
use Rattle.read_new.proofs.parts.bodies.push_locals.Given as goal

-- so many of the type were appended
abbrev pub invariant-loop : goal.invariant-loop
invariant-loop l = l.locals ≡ l.initial.locals ++ replicate l.counter l.group.ty
