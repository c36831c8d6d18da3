use Rattle.std.proofs.Common.{◌≡◌, ◌++◌, drop, map}
use Rattle.crossing.specs.Code.{cross_type}
use Rattle.pass_cross.proofs.types.cross_types.Given as goal

-- what is written so far, with what is still to come, is all
abbrev pub invariant-loop-ty : goal.invariant-loop-ty
invariant-loop-ty l = l.out ++ map cross_type (drop l.ty-index l.types) ≡ map cross_type l.types
