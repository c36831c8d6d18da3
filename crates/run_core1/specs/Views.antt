-- What the marks of a run, and the replies that are left to a function, stand for.
use Rattle.host_kit.specs.Trace as trace
use Rattle.host_kit.specs.Trace.{Mark}
use Rattle.run_core1.specs.declared.mark.Mark1.{Mark1}
use Rattle.run_core1.specs.declared.mark.Mark1.TheVariants.{Shows, Grown}

abbrev pub mark_of : Mark1 → Mark
mark_of (Shows event) = trace.Shows event
mark_of (Grown ok sizes) = trace.Grown ok sizes
