use Rattle.std.proofs.Common.{refl}
use Rattle.typed_trees.specs.Modules.{TypedTable}
use Rattle.valid_mod.specs.Parts.{Tables}
use Rattle.valid_mod.proofs.Order.{found_in}
use Rattle.valid_mod.proofs.parts.check_tables.Goals as goal

pub returns : goal.returns
returns c =
    let m = c.args.m.now in
    c.settle.ensures.tells m Tables refl c.requires.before (found_in (TypedTable m) _ m.tables c.in_ok-found.found c.as_slice.ensures c.in_ok-found.ensures)
