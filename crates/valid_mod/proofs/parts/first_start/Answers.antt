use Rattle.valid_mod.proofs.Deciding.{decided_yes, decided_no}
use Rattle.valid_mod.proofs.Order.{start_typed, start_untyped}
use Rattle.valid_mod.proofs.parts.first_start.Goals as goal

pub returns-then-start_is_typed : goal.returns-then-start_is_typed
returns-then-start_is_typed c = start_typed c.args.m.now (decided_yes c.start_is_typed.result _ c.start_is_typed.ensures c.if-start_is_typed.true)

pub returns-else-start_is_typed : goal.returns-else-start_is_typed
returns-else-start_is_typed c = start_untyped c.args.m.now (decided_no c.start_is_typed.result _ c.start_is_typed.ensures c.if-start_is_typed.false)
