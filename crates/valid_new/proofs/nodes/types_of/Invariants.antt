use Rattle.std.proofs.Common.{◌≡◌, take}
use Rattle.valid_new.proofs.nodes.types_of.Given as goal

abbrev pub invariant-loop-ty : goal.invariant-loop-ty
invariant-loop-ty l = l.list ≡ take l.ty-index l.types
