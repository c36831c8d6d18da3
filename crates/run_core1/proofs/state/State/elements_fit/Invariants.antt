use Rattle.std.proofs.Common.{◌≡◌, drop}
use Rattle.std.specs.List.{list_all}
use Rattle.meaning_core1.specs.Instances.{element_fits}
use Rattle.run_core1.proofs.state.State.elements_fit.Given as goal

abbrev pub invariant-loop-element : goal.invariant-loop-element
invariant-loop-element l = list_all (element_fits l.self.store) (drop l.element-index l.elements) ≡ list_all (element_fits l.self.store) l.elements
