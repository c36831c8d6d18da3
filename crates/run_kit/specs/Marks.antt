-- What the marks of a run stand for.
use Rattle.host_kit.specs.Trace as trace
use Rattle.run_kit.specs.declared.marks.Mark.{Mark}
use Rattle.run_kit.specs.declared.marks.Mark.TheVariants.{Shows, Grown, Captured}

abbrev pub mark_of : Mark → trace.Mark
mark_of (Shows event) = trace.Shows event
mark_of (Grown ok sizes) = trace.Grown ok sizes
mark_of Captured = trace.Captured
