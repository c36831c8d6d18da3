use Rattle.std.proofs.Common.{◌≡◌, ◌++◌, drop, map}
use Rattle.crossing.specs.Modules.{cross_global}
use Rattle.pass_cross.proofs.parts.cross_globals.Given as goal

-- what is written so far, with what is still to come, is all
abbrev pub invariant-loop-global : goal.invariant-loop-global
invariant-loop-global l = l.out ++ map cross_global (drop l.global-index l.globals) ≡ map cross_global l.globals
