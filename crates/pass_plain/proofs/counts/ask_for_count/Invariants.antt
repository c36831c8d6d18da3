use Rattle.std.proofs.Common.{◌≡◌, false, take}
use Rattle.pass_plain.specs.Trimming.{asks_for_count}
use Rattle.pass_plain.proofs.counts.ask_for_count.Given as goal

-- none of the bodies so far asks
abbrev pub invariant-loop-f : goal.invariant-loop-f
invariant-loop-f l = asks_for_count (take l.f-index l.fns) ≡ false
