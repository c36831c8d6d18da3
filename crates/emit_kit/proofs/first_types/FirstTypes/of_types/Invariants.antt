use Rattle.std.proofs.Common.{take}
use Rattle.emit_kit.specs.FirstTypes.{TellsOfTypes}
use Rattle.emit_kit.proofs.first_types.FirstTypes.of_types.Given as goal

-- the entries tell of the types so far
abbrev pub invariant-loop-place : goal.invariant-loop-place
invariant-loop-place l = TellsOfTypes (take l.place l.types) l.first
