use Rattle.std.proofs.Common.{refl}
use Rattle.std.proofs.Math.Nat.{sub-zero}
use Rattle.std.proofs.lemmas.Result.{err_from_is_err_and}
use Rattle.std.specs.Prelude.{[], reverse}
use Rattle.nested_code.specs.Nesting.{expr}
use Rattle.nested_code.proofs.Measures.{no_more, no_token_counted, no_count, last_count, next_count}
use Rattle.nested_code.proofs.measuring.measure_expr.Goals as goal

pub loop-init : goal.loop-init
unfolding expr
loop-init g c = record {
  code = [];
  opened = [];
  so_far = rw sub-zero refl;
  same = rw c.new-arms.ensures refl;
  fair = tt;
  counted = record { reached = λ depth law. refl; found = λ occurs law. refl };
}

pub returns-in_err-token : goal.returns-in_err-token
returns-in_err-token g c = λ depth occurs deep occurring. let d = g.L.Language in let p = err_from_is_err_and c.from_residual.result c.from_residual.ensures.1 in
    rw (p.1, p.2) (no_token_counted d.token d.has_arms d.build d.marks _ _ c.loop.counter c.loop.sizes.nesting c.loop.sizes.marked (reverse c.loop.arms) c.loop.rest.now c.loop.invariant depth occurs c.loop-test.true _ c.in_err-token.ensures)

pub returns-in_err-count_token : goal.returns-in_err-count_token
returns-in_err-count_token g c = λ depth occurs deep occurring. let d = g.L.Language in let p = err_from_is_err_and c.from_residual-in_err-count_token.result c.from_residual-in_err-count_token.ensures.1 in
    rw (p.1, p.2) (no_count d.token d.has_arms d.build d.marks _ _ c.loop.counter c.loop.sizes.nesting c.loop.sizes.marked (reverse c.loop.arms) c.loop.rest.now c.loop.invariant c.loop-test.true c.in_ok-token.token c.in_ok-token.after.now c.in_ok-token.ensures _ c.count_token.new.sizes.nesting c.count_token.new.sizes.marked (reverse c.count_token.new.arms) c.in_err-count_token.ensures depth occurs)

pub returns-in-Closed : goal.returns-in-Closed
returns-in-Closed g c = λ depth occurs deep occurring. let d = g.L.Language in
    last_count d.token d.has_arms d.build d.marks _ _ c.loop.counter c.loop.sizes.nesting c.loop.sizes.marked (reverse c.loop.arms) c.loop.rest.now c.loop.invariant c.loop-test.true c.in_ok-token.token c.in_ok-token.after.now c.in_ok-token.ensures c.count_token.new.sizes.nesting c.count_token.new.sizes.marked (rw c.in-Closed.is at c.in_ok-count_token.ensures) depth occurs deep occurring

pub loop-preserved : goal.loop-preserved
loop-preserved g c = let d = g.L.Language in
    next_count d.token d.has_arms d.build d.marks _ _ c.loop.counter c.loop.sizes.nesting c.loop.sizes.marked (reverse c.loop.arms) c.loop.rest.now c.loop.invariant c.loop-test.true c.in_ok-token.token c.in_ok-token.after.now c.in_ok-token.ensures c.count_token.new.sizes.nesting c.count_token.new.sizes.marked (reverse c.count_token.new.arms) (rw c.in-Inside.is at c.in_ok-count_token.ensures)

pub returns : goal.returns
returns g c = λ depth occurs deep occurring. let d = g.L.Language in
    no_more d.token d.has_arms d.build d.marks _ _ c.loop.counter c.loop.sizes.nesting c.loop.sizes.marked (reverse c.loop.arms) c.loop.rest.now c.loop.invariant depth occurs c.loop-test.false
