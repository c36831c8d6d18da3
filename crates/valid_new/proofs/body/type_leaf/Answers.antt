use Rattle.valid_new.specs.Scopes.{context_of}
use Rattle.valid_new.proofs.body.type_leaf.Goals as goal

pub returns-in-BrTable : goal.returns-in-BrTable
returns-in-BrTable c = c.type_table.ensures (context_of c.args.scope)
