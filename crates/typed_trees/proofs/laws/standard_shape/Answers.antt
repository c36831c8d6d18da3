use Rattle.typing_kit.proofs.Shapes.{same_shape}
use Rattle.typed_trees.specs.Forms.{language}
use Rattle.typed_trees.proofs.Lawfulness.{lawful}
use Rattle.typed_trees.proofs.laws.standard_shape.Goals as goal

pub returns : goal.returns
returns c = λ k. same_shape (language k) (lawful k)
