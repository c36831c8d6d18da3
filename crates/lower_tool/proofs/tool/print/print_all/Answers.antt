use Rattle.std.proofs.Common.{take, arith, length-drop}
use Rattle.std.proofs.lemmas.List.{take_rest}
use Rattle.lower_tool.specs.Statuses.{AppendsFront}
use Rattle.lower_tool.proofs.KnownLemmas.{IsFrontOf-take, Appends-take, Appends-keeps, OnErr-anyway}
use Rattle.lower_tool.proofs.tool.print.print_all.Goals as goal

pub returns-in_err-done-clause-cut : goal.returns-in_err-done-clause-cut
returns-in_err-done-clause-cut g c =
    let cut : AppendsFront (g.S.Sink.written c.args.out.now) (g.S.Sink.written c.give.new.self) c.args.text.now =
    (take c.loop-done.done c.args.text.now, IsFrontOf-take _ _, Appends-keeps _ _ _ _ c.loop-done.invariant.so_far c.in_err-done.ensures.appends) in
    OnErr-anyway _ cut

pub loop-done-preserved : goal.loop-done-preserved
loop-done-preserved g c =
    let piece = take_rest c.args.text.now c.loop-done.done in
    let count = rw piece at c.in_ok-done.ensures.count in
    record {
      within = omega (arith, count, length-drop c.loop-done.done c.args.text.now);
      later = omega (arith, c.in_ok-done.ensures.cause.later, c.loop-done.invariant.later);
      so_far = Appends-take _ _ _ _ _ _ c.loop-done.invariant.so_far (rw piece at c.in_ok-done.ensures.appends);
    }
