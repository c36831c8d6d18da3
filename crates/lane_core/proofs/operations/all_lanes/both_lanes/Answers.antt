use Rattle.std.proofs.Common.{ℕ, ◌-◌, ◌*◌, ◌/◌, ◌%◌, ◌^◌, ◌<◌, ◌≤◌, sym, ap, ◌∙◌, subst}
use Rattle.lane_core.specs.Rows.{binary_lane}
use Rattle.lane_core.proofs.LaneRanges.{binary_below, whole_vector}
use Rattle.lane_core.proofs.Loops.{both_step}
use Rattle.lane_core.proofs.operations.all_lanes.both_lanes.Goals as goal

pub loop-lane-preserved : goal.loop-lane-preserved
loop-lane-preserved c =
    let op = c.args.op in
    let shape = c.args.shape in
    let bits = c.lane_bits-bits.result in
    let is = c.lane_bits-bits.ensures in
    let within : (i j : ℕ) → i < 2 ^ bits → j < 2 ^ bits → binary_lane op shape i j < 2 ^ bits =
    (λ i j p q. subst (λ b. binary_lane op shape i j < 2 ^ b) (sym is) (binary_below op shape i j (subst (λ b. i < 2 ^ b) is p) (subst (λ b. j < 2 ^ b) is q))) in
    let all : bits * c.lane_count-count.result ≤ 128 = rw (is, c.lane_count-count.ensures) (whole_vector shape) in
    both_step bits (binary_lane op shape) within c.args.v c.args.w c.lane_count-count.result c.loop-lane.lane c.loop-lane.made c.from.result
    c.loop-lane-test.true all c.loop-lane.invariant
    (c.from.ensures ∙ c.binary_lane-value.ensures
    ∙ ap (λ i. binary_lane op shape i c.lowest-in-loop-lane.result) c.lowest.ensures
    ∙ ap (binary_lane op shape (c.args.v / 2 ^ (bits * (c.lane_count-count.result - 1 - c.loop-lane.lane)) % 2 ^ bits)) c.lowest-in-loop-lane.ensures)
