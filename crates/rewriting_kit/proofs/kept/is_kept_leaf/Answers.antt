use Rattle.std.proofs.Common.{rules}
use Rattle.rewriting_kit.proofs.Unchanged.{without_bodies}
use Rattle.rewriting_kit.proofs.kept.is_kept_leaf.Goals as goal

pub returns-in-None : goal.returns-in-None
returns-in-None g c =
    λ yes. without_bodies (g.R.Rewriting.entry c.args.rewriting.now) (g.R.Rewriting.layer c.args.rewriting.now) c.args.node.now (c.stays.ensures yes) (search rules)
