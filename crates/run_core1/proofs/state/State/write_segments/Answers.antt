use Rattle.std.proofs.Common.{◌≡◌, ◌+◌, ◌∷◌, drop, arith}
use Rattle.std.proofs.lemmas.Grind.{common_steps}
use Rattle.meaning_core1.specs.Instances.{write_segments}
use Rattle.run_core1.proofs.Fitting.{segments_left}
use Rattle.run_core1.proofs.state.State.write_segments.Goals as goal

pub loop-segment-preserved : goal.loop-segment-preserved
loop-segment-preserved c =
    let cut : drop c.loop-segment.segment-index c.args.segments.now ≡ c.segment-item.result ∷ drop (c.loop-segment.segment-index + 1) c.args.segments.now = grind (arith, common_steps) in
    segments_left (drop c.loop-segment.segment-index c.args.segments.now) (drop (c.loop-segment.segment-index + 1) c.args.segments.now) c.segment-item.result (write_segments c.args.segments.now c.args.self.now.store) c.args.self.now c.loop-segment.self c.write_segment.new.self cut c.write_segment.ensures c.loop-segment.invariant
