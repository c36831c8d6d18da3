use Rattle.std.proofs.Common.{◌<◌, length, refl, subst}
use Rattle.valid_mod.specs.Parts.{Functions}
use Rattle.valid_mod.specs.Searches.{At, Finds}
use Rattle.valid_mod.proofs.Order.{found_in}
use Rattle.valid_mod.proofs.parts.check_functions.Goals as goal

pub returns : goal.returns
returns c =
    let m = c.args.m.now in
    let found = found_in (λ t. t < c.len.result) _ m.funcs c.in_ok-found.found c.as_slice.ensures c.in_ok-found.ensures in
    c.settle.ensures.tells m Functions refl c.requires (subst (λ n. Finds (At m.funcs (λ t. t < n)) (length m.funcs) c.in_ok-found.found) c.len.ensures found)
