use Rattle.typed_trees.proofs.laws.typed_nodes_are_typed_code.Goals as goal
use Rattle.typed_trees.proofs.Erasing.{nodes_erased}

pub returns : goal.returns
returns c = nodes_erased
