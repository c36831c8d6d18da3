use Rattle.std.proofs.Common.{◌≡◌, ◌++◌, map, length}
use Rattle.pass_plain.specs.Folding.{folded_data}
use Rattle.pass_plain.proofs.folding.parts.folded_datas.Given as goal

-- the segments so far, and behind them what becomes of the others
abbrev pub invariant-loop-d : goal.invariant-loop-d
invariant-loop-d l = map (folded_data l.known) l.initial.rest ≡ l.new ++ map (folded_data l.known) l.rest

abbrev pub decreases-loop-d : goal.decreases-loop-d
decreases-loop-d l = length l.rest
