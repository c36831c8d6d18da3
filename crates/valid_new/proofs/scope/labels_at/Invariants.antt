use Rattle.std.proofs.Common.{◌≡◌, drop, map}
use Rattle.typed_trees.specs.Forms.{labels_at}
use Rattle.valid_new.specs.Scopes.{labels_of}
use Rattle.valid_new.proofs.Labels.{prepend}
use Rattle.valid_new.proofs.scope.labels_at.Given as goal

abbrev pub invariant-loop-k : goal.invariant-loop-k
invariant-loop-k l = labels_at (labels_of l.labels) l.numbers ≡ prepend (map (λ ts. ts.now) l.found.items) (labels_at (labels_of l.labels) (drop l.k l.numbers))
