use Rattle.std.proofs.Common.{◌≡◌, ◌-◌, ◌+◌, suc, sym, ◌∙◌, arith}
use Rattle.lane_core.proofs.Loops.{all_more}
use Rattle.lane_core.proofs.operations.all_lanes.all_true.Goals as goal

pub loop-lane-preserved : goal.loop-lane-preserved
loop-lane-preserved c =
    let left = c.lane_count-lane-end.result - (c.loop-lane._lane + 1) in
    let more : c.lane_count-lane-end.result - c.loop-lane._lane ≡ suc left = omega arith in
    sym (all_more c.lane_bits-bits.result (c.lane_count-lane-end.result - c.loop-lane._lane) left c.loop-lane.rest more (λ z. c.if-lowest-eq0.false (c.lowest.ensures ∙ z)))
    ∙ c.loop-lane.invariant
