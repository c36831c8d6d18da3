use Rattle.std.proofs.Common.{◌∙◌, sym, reverse, arith}
use Rattle.std.proofs.lemmas.List.{length-reverse}
use Rattle.typing_kit.proofs.Fitting.{fit_past, fit_ends, fit_goes_on}
use Rattle.typing_kit.proofs.matching.fit.Goals as goal

pub returns-then-k-operands : goal.returns-then-k-operands
returns-then-k-operands g c =
    sym (fit_past g.V.ValueTypes.sub c.args.dead (reverse c.args.operands.now) (reverse c.args.wanted.now) c.loop-k.k (omega (arith, length-reverse c.args.operands.now)) (omega (arith, length-reverse c.args.wanted.now)))
    ∙ c.loop-k.invariant

pub returns-then-not-meets : goal.returns-then-not-meets
returns-then-not-meets g c =
    fit_ends g.V.ValueTypes.sub c.args.dead c.args.operands.now c.args.wanted.now c.loop-k.k c.index-operands-operands.result c.index-wanted-wanted.result c.meets.result (omega arith) (omega arith) c.index-operands-operands.is c.index-wanted-wanted.is c.meets.ensures _ c.loop-k.invariant c.if-not-meets.true

pub loop-k-preserved : goal.loop-k-preserved
loop-k-preserved g c =
    fit_goes_on g.V.ValueTypes.sub c.args.dead c.args.operands.now c.args.wanted.now c.loop-k.k c.index-operands-operands.result c.index-wanted-wanted.result c.meets.result (omega arith) (omega arith) c.index-operands-operands.is c.index-wanted-wanted.is c.meets.ensures _ c.loop-k.invariant c.if-not-meets.false
