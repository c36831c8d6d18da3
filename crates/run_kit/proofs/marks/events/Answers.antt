use Rattle.run_kit.proofs.Seen.{more_seen}
use Rattle.run_kit.proofs.marks.events.Goals as goal

pub loop-mark-preserved : goal.loop-mark-preserved
loop-mark-preserved c =
    more_seen c.loop-mark.seen c.keep_event.new.seen c.loop-mark.yielded c.in-Some.mark c.loop-mark.invariant c.in_ok-keep_event.ensures
