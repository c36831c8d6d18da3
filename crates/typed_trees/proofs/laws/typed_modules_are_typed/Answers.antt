use Rattle.typed_trees.proofs.laws.typed_modules_are_typed.Goals as goal
use Rattle.typed_trees.proofs.Modules.{tree_typed}

pub returns : goal.returns
returns c = tree_typed
