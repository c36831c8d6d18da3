use Rattle.std.proofs.Common.{◌≡◌, drop}
use Rattle.meaning_new.specs.Instances.{place_datas}
use Rattle.run_new.proofs.store.Store.place_datas.Given as goal

abbrev pub invariant-loop-place : goal.invariant-loop-place
invariant-loop-place l = place_datas l.place (drop l.place l.datas) l.self ≡ place_datas 0 l.datas l.fn.self
