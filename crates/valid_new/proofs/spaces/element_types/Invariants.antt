use Rattle.std.proofs.Common.{◌≡◌, take, map}
use Rattle.valid_new.proofs.spaces.element_types.Given as goal

abbrev pub invariant-loop-element : goal.invariant-loop-element
invariant-loop-element l = l.types ≡ map (λ e. e.ty) (take l.element-index l.m.elems)
