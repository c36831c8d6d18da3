use Rattle.std.proofs.Common.{◌≡◌, drop}
use Rattle.std.specs.List.{list_all}
use Rattle.meaning_core1.specs.Instances.{segment_fits}
use Rattle.run_core1.proofs.state.State.segments_fit.Given as goal

abbrev pub invariant-loop-segment : goal.invariant-loop-segment
invariant-loop-segment l = list_all (segment_fits l.self.store) (drop l.segment-index l.segments) ≡ list_all (segment_fits l.self.store) l.segments
