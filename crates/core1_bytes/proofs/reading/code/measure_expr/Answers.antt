use Rattle.std.proofs.Common.{false}
use Rattle.std.proofs.lemmas.Result.{err_from_is_err_and}
use Rattle.core1_bytes.specs.Bodies.{expr}
use Rattle.core1_bytes.specs.Nesting.{depth}
use Rattle.core1_bytes.proofs.Depths.{is_depth, no_marks, depth_measured, depth_missed}
use Rattle.core1_bytes.proofs.reading.code.measure_expr.Goals as goal

pub returns-in_err-sizes : goal.returns-in_err-sizes
unfolding expr
returns-in_err-sizes c = let p = err_from_is_err_and c.from_residual.result c.from_residual.ensures.1 in
    rw (p.1, p.2) (depth_missed _ _ (c.in_err-sizes.ensures depth (λ i. false) is_depth no_marks))

pub returns : goal.returns
unfolding expr
returns c = depth_measured _ _ _ _ (c.in_ok-sizes.ensures depth (λ i. false) is_depth no_marks)
