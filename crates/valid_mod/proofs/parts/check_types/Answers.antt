use Rattle.std.proofs.Common.{refl}
use Rattle.typed_trees.specs.Modules.{TypedFuncType}
use Rattle.valid_mod.specs.Parts.{Types}
use Rattle.valid_mod.proofs.Order.{found_in, no_sections}
use Rattle.valid_mod.proofs.parts.check_types.Goals as goal

pub returns : goal.returns
returns c =
    let m = c.args.m.now in
    c.settle.ensures.tells m Types refl (no_sections m) (found_in (TypedFuncType) _ m.types c.in_ok-found.found c.as_slice.ensures c.in_ok-found.ensures)
