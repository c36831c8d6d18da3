use Rattle.std.proofs.Common.{◌≡◌, ◌++◌, drop, map}
use Rattle.crossing.specs.Modules.{cross_item}
use Rattle.pass_cross.proofs.parts.cross_items.Given as goal

-- what is written so far, with what is still to come, is all
abbrev pub invariant-loop-code : goal.invariant-loop-code
invariant-loop-code l = l.out ++ map cross_item (drop l.code-index l.codes) ≡ map cross_item l.codes
