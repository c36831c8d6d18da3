use Rattle.std.proofs.Common.{refl}
use Rattle.typed_trees.specs.Modules.{TypedSegment}
use Rattle.valid_mod.specs.Parts.{Segments}
use Rattle.valid_mod.proofs.Order.{found_in}
use Rattle.valid_mod.proofs.parts.check_segments.Goals as goal

pub returns : goal.returns
returns c =
    let m = c.args.m.now in
    c.settle.ensures.tells m Segments refl c.requires.before (found_in (TypedSegment m) _ m.datas c.in_ok-found.found c.as_slice.ensures c.in_ok-found.ensures)
