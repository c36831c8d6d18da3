use Rattle.host_kit.specs.Offered1.{imported_global1}
use Rattle.host_kit.proofs.Passing.{Rests}
use Rattle.host_kit.proofs.offered1.imported_global_at.Given as goal

abbrev pub invariant-loop-import : goal.invariant-loop-import
invariant-loop-import l = Rests (λ i. imported_global1 i.desc) l.imports l.place l.import-index l.left
