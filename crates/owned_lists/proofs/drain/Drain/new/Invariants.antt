use Rattle.std.proofs.Common.{◌≡◌, ◌++◌, reverse, length}
use Rattle.owned_lists.proofs.drain.Drain.new.Given as goal

-- what is left, and behind it what was taken from its end
abbrev pub invariant-loop-last : goal.invariant-loop-last
invariant-loop-last g l = l.initial.items ≡ l.items ++ reverse l.reversed.items

abbrev pub decreases-loop-last : goal.decreases-loop-last
decreases-loop-last g l = length l.items
