use Rattle.std.proofs.Common.{refl}
use Rattle.typed_trees.specs.Modules.{TypedImport}
use Rattle.valid_mod.specs.Parts.{Imports}
use Rattle.valid_mod.proofs.Order.{found_in}
use Rattle.valid_mod.proofs.parts.check_imports.Goals as goal

pub returns : goal.returns
returns c =
    let m = c.args.m.now in
    c.settle.ensures.tells m Imports refl c.requires (found_in (λ i. TypedImport m i.desc) _ m.imports c.in_ok-found.found c.as_slice.ensures c.in_ok-found.ensures)
