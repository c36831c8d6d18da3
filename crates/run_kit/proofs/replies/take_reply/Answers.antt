use Rattle.run_kit.proofs.Taken.{replaced}
use Rattle.run_kit.proofs.replies.take_reply.Goals as goal

pub returns-clause-rest : goal.returns-clause-rest
returns-clause-rest c =
    replaced c.args.left.now c.args.place c.left_at.result c.in_ok-left_at.field-0 c.in_ok-first.rest c.in_ok-first.first.now c.left_at.ensures c.in_ok-left_at.was c.in_ok-first.ensures.cases.0
