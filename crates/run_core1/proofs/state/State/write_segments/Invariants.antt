use Rattle.std.proofs.Common.{drop}
use Rattle.std.specs.List.{list_all}
use Rattle.meaning_core1.specs.Instances.{segment_fits, write_segments}
use Rattle.run_core1.proofs.Fitting.{Left}
use Rattle.run_core1.proofs.state.State.write_segments.Given as goal

abbrev pub invariant-loop-segment : goal.invariant-loop-segment
invariant-loop-segment l =
    Left (list_all (segment_fits l.self.store) (drop l.segment-index l.segments)) (write_segments (drop l.segment-index l.segments) l.self.store) (write_segments l.segments l.fn.self.store) l.fn.self l.self
