use Rattle.host_kit.specs.Offered.{imported_global}
use Rattle.host_kit.proofs.Passing.{Rests}
use Rattle.host_kit.proofs.offered.imported_global_at.Given as goal

abbrev pub invariant-loop-import : goal.invariant-loop-import
invariant-loop-import l = Rests (λ i. imported_global i.desc) l.imports l.place l.import-index l.left
