use Rattle.core1_ast.specs.Spaces.{func_import}
use Rattle.host_kit.proofs.Passing.{Rests}
use Rattle.host_kit.proofs.offered1.imported_func.Given as goal

abbrev pub invariant-loop-import : goal.invariant-loop-import
invariant-loop-import l = Rests (λ i. func_import i.desc) l.imports l.place l.import-index l.left
