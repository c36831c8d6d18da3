use Rattle.std.proofs.Common.{refl}
use Rattle.std.proofs.Math.Nat.{sub-zero}
use Rattle.std.proofs.lemmas.Result.{err_from_is_err_and}
use Rattle.std.specs.Prelude.{reverse}
use Rattle.nested_code.specs.Nesting.{expr}
use Rattle.nested_code.proofs.Steps.{out_of_bytes, no_token, no_turn, last_turn, next_turn}
use Rattle.nested_code.proofs.reading.read_expr.Goals as goal

pub loop-init : goal.loop-init
unfolding expr
loop-init g c = rw (c.new-code.ensures, c.new-opened.ensures, sub-zero) refl

pub returns-in_err-token : goal.returns-in_err-token
returns-in_err-token g c = let d = g.L.Language in let p = err_from_is_err_and c.from_residual.result c.from_residual.ensures.1 in
    rw (p.1, p.2) (no_token d.token d.has_arms d.build _ c.loop.counter c.loop.code (reverse c.loop.opened) c.loop.rest.now _ c.loop-test.true c.loop.invariant _ c.in_err-token.ensures)

pub returns-in_err-take_token : goal.returns-in_err-take_token
returns-in_err-take_token g c = let d = g.L.Language in let p = err_from_is_err_and c.from_residual-in_err-take_token.result c.from_residual-in_err-take_token.ensures.1 in
    rw (p.1, p.2) (no_turn d.token d.has_arms d.build _ c.loop.counter c.loop.code (reverse c.loop.opened) c.loop.rest.now _ c.loop-test.true c.loop.invariant c.in_ok-token.token c.in_ok-token.after.now c.in_ok-token.ensures _ c.take_token.new.code (reverse c.take_token.new.opened) c.in_err-take_token.ensures)

pub returns-in-Closed : goal.returns-in-Closed
returns-in-Closed g c = let d = g.L.Language in
    last_turn d.token d.has_arms d.build _ c.loop.counter c.loop.code (reverse c.loop.opened) c.loop.rest.now _ c.loop-test.true c.loop.invariant c.in_ok-token.token c.in_ok-token.after.now c.in_ok-token.ensures c.take_token.new.code (rw c.in-Closed.is at c.in_ok-take_token.ensures)

pub loop-preserved : goal.loop-preserved
loop-preserved g c = let d = g.L.Language in
    next_turn d.token d.has_arms d.build _ c.loop.counter c.loop.code (reverse c.loop.opened) c.loop.rest.now _ c.loop-test.true c.loop.invariant c.in_ok-token.token c.in_ok-token.after.now c.in_ok-token.ensures c.take_token.new.code (reverse c.take_token.new.opened) (rw c.in-Inside.is at c.in_ok-take_token.ensures)

pub returns : goal.returns
returns g c = let d = g.L.Language in
    out_of_bytes d.token d.has_arms d.build _ c.loop.counter c.loop.code (reverse c.loop.opened) c.loop.rest.now _ c.loop-test.false c.loop.invariant
