use Rattle.std.proofs.Common.{◌≡◌, ◌+◌, length, drop}
use Rattle.valid_mod.specs.Bodies.{filled, AreBodies}
use Rattle.valid_mod.proofs.bodies.type_owned_bodies.Given as goal

-- the bodies so far are typed, and those behind them are left
abbrev pub invariant-loop-body : goal.invariant-loop-body
invariant-loop-body l = record {
  kept : AreBodies (filled l.parts l.fn.bodies) (length l.fns) l.fns;
  rest : l.rest ≡ drop (length l.fns) l.fn.bodies;
  count : length l.fns + length l.rest ≡ length l.fn.bodies;
}

abbrev pub decreases-loop-body : goal.decreases-loop-body
decreases-loop-body l = length l.rest
