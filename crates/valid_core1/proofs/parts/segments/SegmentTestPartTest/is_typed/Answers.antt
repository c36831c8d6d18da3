use Rattle.valid_core1.proofs.Deciding.{segment_decided}
use Rattle.valid_core1.proofs.parts.segments.SegmentTestPartTest.is_typed.Goals as goal

pub returns : goal.returns
returns c = segment_decided c.args.self.now.module.now c.args.self.now.spaces.now c.requires c.segment_is_typed.result c.args.segment.now c.segment_is_typed.ensures
