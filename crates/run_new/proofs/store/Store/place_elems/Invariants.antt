use Rattle.std.proofs.Common.{◌≡◌, drop}
use Rattle.meaning_new.specs.Instances.{place_elems}
use Rattle.run_new.proofs.store.Store.place_elems.Given as goal

abbrev pub invariant-loop-place : goal.invariant-loop-place
invariant-loop-place l = place_elems l.place (drop l.place l.elems) l.self ≡ place_elems 0 l.elems l.fn.self
