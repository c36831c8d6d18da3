use Rattle.std.proofs.Common.{◌≡◌, ◌++◌, drop}
use Rattle.std.specs.List.{flat_map}
use Rattle.crossing.specs.Modules.{cross_element}
use Rattle.pass_cross.proofs.parts.cross_elements.Given as goal

-- what is written so far, with what is still to come, is all
abbrev pub invariant-loop-element : goal.invariant-loop-element
invariant-loop-element l = l.out ++ flat_map cross_element (drop l.element-index l.elements) ≡ flat_map cross_element l.elements
