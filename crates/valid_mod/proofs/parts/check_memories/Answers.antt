use Rattle.std.proofs.Common.{refl}
use Rattle.typed_trees.specs.Modules.{TypedMemory}
use Rattle.valid_mod.specs.Parts.{Memories}
use Rattle.valid_mod.proofs.Order.{found_in}
use Rattle.valid_mod.proofs.parts.check_memories.Goals as goal

pub returns : goal.returns
returns c =
    let m = c.args.m.now in
    c.settle.ensures.tells m Memories refl c.requires (found_in (TypedMemory) _ m.memories c.in_ok-found.found c.as_slice.ensures c.in_ok-found.ensures)
