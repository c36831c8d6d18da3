use Rattle.std.proofs.Common.{◌≡◌, ℕ, ◌*◌, ◌^◌, ◌<◌, ◌≤◌, map, sym, ap, ◌∙◌, subst, arith}
use Rattle.lane_core.specs.Lanes.{cut_into, joined}
use Rattle.lane_core.specs.Rows.{unary_lane}
use Rattle.lane_core.proofs.LaneRanges.{unary_below}
use Rattle.lane_core.proofs.Loops.{each_step, each_end}
use Rattle.lane_core.proofs.operations.all_lanes.each_lane.Goals as goal

pub loop-lane-preserved : goal.loop-lane-preserved
loop-lane-preserved c =
    let op = c.args.op in
    let shape = c.args.shape in
    let read = c.bits_read-read.result in
    let given = c.bits_given-given.result in
    let reads = c.bits_read-read.ensures.value in
    let gives = c.bits_given-given.ensures.value in
    let within : (i : ℕ) → i < 2 ^ read → unary_lane op shape i < 2 ^ given =
    (λ i lt. subst (λ b. unary_lane op shape i < 2 ^ b) (sym gives) (unary_below op shape i (subst (λ b. i < 2 ^ b) reads lt))) in
    let all : given * c.lane_count-count.result ≤ 128 = subst (λ k. given * k ≤ 128) (sym c.lane_count-count.ensures) c.bits_given-given.ensures.all in
    each_step read given (unary_lane op shape) within c.args.v c.lane_count-count.result c.loop-lane.lane c.loop-lane.made c.from.result
    c.loop-lane-test.true all c.loop-lane.invariant
    (c.from.ensures ∙ c.unary_lane.ensures ∙ ap (unary_lane op shape) c.lowest-part.ensures)

pub returns : goal.returns
returns c =
    let done : c.loop-lane.lane ≡ c.lane_count-count.result = omega arith in
    let made : c.loop-lane.made ≡ joined c.bits_given-given.result (map (unary_lane c.args.op c.args.shape) (cut_into c.bits_read-read.result c.lane_count-count.result c.args.v)) =
    c.loop-lane.invariant ∙ each_end c.bits_read-read.result c.bits_given-given.result (unary_lane c.args.op c.args.shape) c.args.v c.loop-lane.lane c.lane_count-count.result done in
    rw (c.bits_read-read.ensures.value, c.bits_given-given.ensures.value, c.lane_count-count.ensures) at made
