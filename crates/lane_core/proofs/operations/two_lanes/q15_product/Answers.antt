use Rattle.std.proofs.Common.{refl, ap, ◌∙◌}
use Rattle.lane_core.specs.Lanes.{lane_bits}
use Rattle.lane_core.specs.LaneNumbers.{saturate_signed}
use Rattle.lane_core.proofs.Signs.{product_shifted}
use Rattle.lane_core.proofs.operations.two_lanes.q15_product.Goals as goal

pub returns : goal.returns
returns c =
    let x = c.signed_number.result in
    let y = c.signed_number-2.result in
    let nearest = saturate_signed (lane_bits c.args.shape) in
    c.saturate.ensures.value
    ∙ ap nearest (product_shifted x y c.signed_number.ensures.small c.signed_number-2.ensures.small)
    ∙ rw (c.signed_number.ensures.value, c.signed_number-2.ensures.value) refl
