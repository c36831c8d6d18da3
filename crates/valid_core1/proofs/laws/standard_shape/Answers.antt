use Rattle.typing_kit.proofs.Laws.{lawful_of_equality}
use Rattle.typing_kit.proofs.Shapes.{same_shape}
use Rattle.valid_core1.specs.Forms.{language}
use Rattle.valid_core1.proofs.Rules.{same_type_refl, same_type_is}
use Rattle.valid_core1.proofs.laws.standard_shape.Goals as goal

pub returns : goal.returns
returns c = λ k. same_shape (language k) (lawful_of_equality (language k) same_type_refl same_type_is)
