use Rattle.std.proofs.Common.{ℕ, ◌<◌}
use Rattle.valid_mod.specs.Searches.{At}
use Rattle.valid_mod.proofs.search.first_untyped.Given as goal

abbrev pub invariant-loop-place : goal.invariant-loop-place
invariant-loop-place g l = (k : ℕ) → k < l.place → At l.parts (g.T.PartTest.typed l.test) k
