use Rattle.module_reading.proofs.Texts.{Keeps}
use Rattle.module_reading.proofs.bodies.walk_bodies.Given as goal

-- what was walked over so far, and what is left
abbrev pub invariant-loop-place : goal.invariant-loop-place
invariant-loop-place g l = Keeps g.F.ModuleFormat.format g.F.ModuleFormat.means l.bytes l.count l.place l.walk l.rest
