use Rattle.std.proofs.Common.{◌≡◌, map}
use Rattle.host_kit.specs.Trace.{events}
use Rattle.run_core1.specs.Views.{mark_of}
use Rattle.run_core1.proofs.mark.events.Given as goal

abbrev pub invariant-loop-mark : goal.invariant-loop-mark
invariant-loop-mark l = l.seen ≡ events (map mark_of l.yielded)
