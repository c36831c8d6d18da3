use Rattle.std.proofs.Common.{refl}
use Rattle.typed_trees.specs.Modules.{TypedElement}
use Rattle.valid_mod.specs.Parts.{Elements}
use Rattle.valid_mod.proofs.Order.{found_in}
use Rattle.valid_mod.proofs.parts.check_elements.Goals as goal

pub returns : goal.returns
returns c =
    let m = c.args.m.now in
    c.settle.ensures.tells m Elements refl c.requires.before (found_in (TypedElement m) _ m.elems c.in_ok-found.found c.as_slice.ensures c.in_ok-found.ensures)
