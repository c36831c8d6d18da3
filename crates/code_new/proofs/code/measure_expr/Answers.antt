use Rattle.std.proofs.lemmas.Result.{err_from_is_err_and}
use Rattle.wasm_ast.specs.Occurrence.{some}
use Rattle.code_new.specs.Code.{depth, is_data_use, expr}
use Rattle.code_new.proofs.Sizes.{is_depth, is_occurrence}
use Rattle.code_new.proofs.code.measure_expr.Goals as goal

pub returns-in_err-sizes : goal.returns-in_err-sizes
unfolding expr
returns-in_err-sizes c = let p = err_from_is_err_and c.from_residual.result c.from_residual.ensures.1 in
    rw (p.1, p.2) (c.in_err-sizes.ensures depth (some is_data_use) is_depth is_occurrence)

pub returns : goal.returns
unfolding expr
returns c = c.in_ok-sizes.ensures depth (some is_data_use) is_depth is_occurrence
