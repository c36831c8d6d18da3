use Rattle.std.proofs.Common.{[], ◌∷◌, ◌++◌, length, arith}
use Rattle.grammar_kit.proofs.Loop.{goes_on}
use Rattle.module_reading.proofs.Lists.{greatest_more}
use Rattle.read_new.specs.Types.{func_type}
use Rattle.read_new.proofs.TypeSizes.{one_type}
use Rattle.read_new.proofs.parts.types.measure_types.Goals as goal

pub loop-preserved : goal.loop-preserved
loop-preserved c =
    let so_far = c.loop.invariant in
    let t = one_type (func_type.read c.loop.rest.now) c.in_ok-params.params c.in_ok-params.gives c.in_ok-params.after.now c.in_ok-params.ensures in (
      so_far.0 ++ t.0 ∷ [],
      goes_on func_type so_far.0 c.args.count c.loop.counter c.loop.rest.now t.0 c.in_ok-params.after.now _ c.loop-test.true t.1 so_far.1,
      omega (arith, c.max-parameters.ensures, so_far.2, t.2, greatest_more (λ t. length t.params) so_far.0 t.0),
      omega (arith, c.max-results.ensures, so_far.3, t.3, greatest_more (λ t. length t.results) so_far.0 t.0),
    )
