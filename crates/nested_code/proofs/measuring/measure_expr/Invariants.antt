use Rattle.std.specs.Prelude.{reverse}
use Rattle.nested_code.specs.Nesting.{expr}
use Rattle.nested_code.proofs.Measures.{Keeps}
use Rattle.nested_code.proofs.measuring.measure_expr.Given as goal

abbrev pub invariant-loop : goal.invariant-loop
invariant-loop g l = let d = g.L.Language in
    Keeps d.token d.has_arms d.build d.marks ((expr d.token d.has_arms d.build).read l.bytes) l.end l.counter l.sizes.nesting l.sizes.marked (reverse l.arms) l.rest
