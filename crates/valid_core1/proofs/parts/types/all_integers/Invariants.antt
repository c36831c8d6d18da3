use Rattle.std.proofs.Common.{◌≡◌, drop}
use Rattle.std.specs.List.{list_all}
use Rattle.valid_core1.specs.Forms.{is_integer}
use Rattle.valid_core1.proofs.parts.types.all_integers.Given as goal

abbrev pub invariant-loop-ty : goal.invariant-loop-ty
invariant-loop-ty l = list_all is_integer (drop l.ty-index l.types) ≡ list_all is_integer l.types
