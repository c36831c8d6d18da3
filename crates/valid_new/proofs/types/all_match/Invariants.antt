use Rattle.std.proofs.Common.{◌≡◌, drop}
use Rattle.typed_trees.specs.Matching.{all_match}
use Rattle.valid_new.proofs.types.all_match.Given as goal

abbrev pub invariant-loop-k : goal.invariant-loop-k
invariant-loop-k l = all_match (drop l.k l.given) (drop l.k l.wanted) ≡ all_match l.given l.wanted
