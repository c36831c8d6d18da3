use Rattle.std.proofs.Common.{◌≡◌, ◌++◌, length}
use Rattle.pass_plain.specs.Bodies.{rewritten_functions}
use Rattle.pass_plain.proofs.bodies.rewrite_functions.Given as goal

-- the functions so far, and behind them what becomes of the others
abbrev pub invariant-loop-f : goal.invariant-loop-f
invariant-loop-f g l =
    let all = rewritten_functions (g.R.Rewriting.entry l.rewriting) (g.R.Rewriting.layer l.rewriting) in
    all l.initial.rest ≡ l.new ++ all l.rest

abbrev pub decreases-loop-f : goal.decreases-loop-f
decreases-loop-f g l = length l.rest
