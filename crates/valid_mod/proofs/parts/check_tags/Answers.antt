use Rattle.std.proofs.Common.{refl}
use Rattle.typed_trees.specs.Modules.{TypedTag}
use Rattle.valid_mod.specs.Parts.{Tags}
use Rattle.valid_mod.proofs.Order.{found_in}
use Rattle.valid_mod.proofs.parts.check_tags.Goals as goal

pub returns : goal.returns
returns c =
    let m = c.args.m.now in
    c.settle.ensures.tells m Tags refl c.requires (found_in (TypedTag m) _ m.tags c.in_ok-found.found c.as_slice.ensures c.in_ok-found.ensures)
