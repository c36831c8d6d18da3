use Rattle.std.proofs.Common.{refl}
use Rattle.read_new.specs.Segments.{index}
use Rattle.read_new.proofs.Depths.{reference_depth}
use Rattle.read_new.proofs.parts.segments.IndexMeasureMeasure.measure.Goals as goal

pub returns : goal.returns
unfolding index
returns c = rw (rw c.in_ok-rest.ensures.ok_part at c.split_u32.ensures, reference_depth c.in_ok-rest.field-0-0) refl
