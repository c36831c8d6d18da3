use Rattle.std.proofs.Common.{◌≡◌, ◌∙◌, max, arith}
use Rattle.grammar_kit.proofs.Measuring.{measure_goes_on, larger_is}
use Rattle.grammar_kit.proofs.measure.measure_many.Goals as goal

pub loop-preserved : goal.loop-preserved
loop-preserved g c =
    let next = measure_goes_on g.M.Measure.size g.M.Measure.form c.loop.greatest c.loop.total c.args.count c.loop.counter c.loop.rest.now c.in_ok-size.size c.in_ok-size.after.now _ c.loop-test.true c.in_ok-size.ensures c.loop.invariant.0 in
    let larger : c.max-greatest.result ≡ max c.loop.greatest c.in_ok-size.size = c.max-greatest.ensures ∙ larger_is c.loop.greatest c.in_ok-size.size in
    (rw (larger, c.from-total.ensures) next, omega (arith, c.loop.invariant.1, c.from-total.ensures))
