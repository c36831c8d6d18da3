use Rattle.std.proofs.Common.{◌∙◌, arith, sym, ap}
use Rattle.std.proofs.Math.ListN.{get_or-append}
use Rattle.lane_core.specs.declared.vector.Shape.TheVariants.{I8x16}
use Rattle.lane_core.specs.Lanes.{lanes}
use Rattle.lane_core.specs.Rows.{unary_lane}
use Rattle.lane_core.proofs.operations.one_lane.unary_lane.Goals as goal

pub returns-then-i-lt16 : goal.returns-then-i-lt16
returns-then-i-lt16 c =
    c.lane_at-then-i-lt16.ensures.value
    ∙ sym (get_or-append (lanes I8x16 c.in-ByteOfBoth.v.0) (lanes I8x16 c.in-ByteOfBoth.w.0) 0 c.args.i (omega arith))
    ∙ ap (λ op. unary_lane op c.args.shape c.args.i) (sym c.in-ByteOfBoth.is)
