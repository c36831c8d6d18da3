use Rattle.std.proofs.Common.{◌≡◌, ◌++◌, map, length}
use Rattle.pass_plain.specs.Folding.{folded_elem}
use Rattle.pass_plain.proofs.folding.parts.folded_elems.Given as goal

-- the segments so far, and behind them what becomes of the others
abbrev pub invariant-loop-e : goal.invariant-loop-e
invariant-loop-e l = map (folded_elem l.known) l.initial.rest ≡ l.new ++ map (folded_elem l.known) l.rest

abbrev pub decreases-loop-e : goal.decreases-loop-e
decreases-loop-e l = length l.rest
