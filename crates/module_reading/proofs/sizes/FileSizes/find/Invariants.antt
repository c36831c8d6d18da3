use Rattle.std.proofs.Common.{◌≡◌, drop}
use Rattle.module_reading.specs.Sizes.{sizes_at}
use Rattle.module_reading.proofs.sizes.FileSizes.find.Given as goal

-- the sections that were looked at are of other ids
abbrev pub invariant-loop-section : goal.invariant-loop-section
invariant-loop-section l = sizes_at l.id (drop l.section-index l.self.sections) ≡ sizes_at l.id l.self.sections
