use Rattle.std.proofs.Common.{◌≡◌, ◌+◌, ◌∷◌, drop, arith}
use Rattle.std.proofs.lemmas.Grind.{common_steps}
use Rattle.meaning_core1.specs.Instances.{write_elements}
use Rattle.run_core1.proofs.Fitting.{elements_left}
use Rattle.run_core1.proofs.state.State.write_elements.Goals as goal

pub loop-element-preserved : goal.loop-element-preserved
loop-element-preserved c =
    let cut : drop c.loop-element.element-index c.args.elements.now ≡ c.element-item.result ∷ drop (c.loop-element.element-index + 1) c.args.elements.now = grind (arith, common_steps) in
    elements_left (drop c.loop-element.element-index c.args.elements.now) (drop (c.loop-element.element-index + 1) c.args.elements.now) c.element-item.result (write_elements c.args.elements.now c.args.self.now.store) c.args.self.now c.loop-element.self c.write_element.new.self cut c.write_element.ensures c.loop-element.invariant
