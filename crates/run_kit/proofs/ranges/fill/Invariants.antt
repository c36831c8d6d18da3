use Rattle.std.proofs.Common.{◌≡◌, take, length, replicate}
use Rattle.run_kit.proofs.ranges.fill.Given as goal

abbrev pub invariant-loop-index : goal.invariant-loop-index
invariant-loop-index g l = (take l.index l.items ≡ replicate l.index l.item) × (length l.items ≡ length l.fn.items)
