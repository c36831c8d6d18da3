use Rattle.std.proofs.Common.{◌≡◌, ◌-◌, ◌*◌, ◌≤◌}
use Rattle.grammar_kit.specs.Form.{many}
use Rattle.grammar_kit.specs.Measures.{through, extent}
use Rattle.grammar_kit.proofs.Measuring.{joined}
use Rattle.grammar_kit.proofs.measure.measure_many.Given as goal

-- what was measured so far and what is still to be measured are the extent of the whole count
abbrev pub invariant-loop : goal.invariant-loop
invariant-loop g l =
    (joined g.M.Measure.size l.greatest l.total ((many g.M.Measure.form (l.count - l.counter)).read l.rest) ≡ through (extent g.M.Measure.size) ((many g.M.Measure.form l.count).read l.bytes))
    × (l.total ≤ l.counter * 4294967295)
