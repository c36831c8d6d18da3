use Rattle.valid_mod.proofs.Deciding.{start_func_typed, start_func_untyped}
use Rattle.valid_new.specs.Scopes.{spaces_context}
use Rattle.valid_mod.proofs.parts.exports.start_func_is_typed.Goals as goal

pub returns-in-Some : goal.returns-in-Some
returns-in-Some c =
    start_func_typed c.args.m.now c.func_type.result (spaces_context c.args.spaces.now) c.args.func c.in-Some.ty c.takes_and_gives_nothing.result c.requires c.func_type.ensures c.in-Some.is c.takes_and_gives_nothing.ensures

pub returns-in-None : goal.returns-in-None
returns-in-None c = start_func_untyped c.args.m.now c.func_type.result (spaces_context c.args.spaces.now) c.args.func c.requires c.func_type.ensures c.in-None.is
