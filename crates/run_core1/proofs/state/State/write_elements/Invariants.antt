use Rattle.std.proofs.Common.{drop}
use Rattle.std.specs.List.{list_all}
use Rattle.meaning_core1.specs.Instances.{element_fits, write_elements}
use Rattle.run_core1.proofs.Fitting.{Left}
use Rattle.run_core1.proofs.state.State.write_elements.Given as goal

abbrev pub invariant-loop-element : goal.invariant-loop-element
invariant-loop-element l =
    Left (list_all (element_fits l.self.store) (drop l.element-index l.elements)) (write_elements (drop l.element-index l.elements) l.self.store) (write_elements l.elements l.fn.self.store) l.fn.self l.self
