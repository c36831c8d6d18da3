use Rattle.std.proofs.Common.{◌≡◌, map}
use Rattle.host_kit.specs.Trace.{events}
use Rattle.run_kit.specs.Marks.{mark_of}
use Rattle.run_kit.proofs.marks.events.Given as goal

abbrev pub invariant-loop-mark : goal.invariant-loop-mark
invariant-loop-mark l = l.seen ≡ events (map mark_of l.yielded)
