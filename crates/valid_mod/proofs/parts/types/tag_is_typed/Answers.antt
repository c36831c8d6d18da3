use Rattle.std.proofs.Common.{◌≡◌, [], subst}
use Rattle.valid_new.specs.Judged.{Decided}
use Rattle.valid_mod.proofs.Deciding.{tag_typed, tag_untyped}
use Rattle.valid_mod.proofs.parts.types.tag_is_typed.Goals as goal

pub returns-in-Some : goal.returns-in-Some
returns-in-Some c =
    tag_typed c.args.m.now c.type_at.result c.args.index c.in-Some.ty c.is_nothing.result c.type_at.ensures c.in-Some.is
    (subst (λ l. Decided c.is_nothing.result (l ≡ [])) c.as_slice.ensures c.is_nothing.ensures)

pub returns-in-None : goal.returns-in-None
returns-in-None c = tag_untyped c.args.m.now c.type_at.result c.args.index c.type_at.ensures c.in-None.is
