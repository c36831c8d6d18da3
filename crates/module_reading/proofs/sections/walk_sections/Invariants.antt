use Rattle.std.proofs.Common.{take}
use Rattle.wasm_frame.specs.Frame.{parts_of}
use Rattle.module_reading.specs.Walked.{AreWalked}
use Rattle.module_reading.proofs.sections.walk_sections.Given as goal

-- the sections so far were walked over
abbrev pub invariant-loop-place : goal.invariant-loop-place
invariant-loop-place g l = AreWalked g.F.ModuleFormat.format g.F.ModuleFormat.means (take l.place (parts_of l.file.bytes l.section-items)) l.walked
