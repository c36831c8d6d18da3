use Rattle.wasm_frame.proofs.Contents.{RestOf}
use Rattle.module_reading.specs.Limits.{IsWithin}
use Rattle.module_reading.specs.Numbers.{number_in}
use Rattle.module_reading.proofs.numbers.first_passed.Given as goal

-- what the kinds that are left say is what all of them say
abbrev pub invariant-loop-kind : goal.invariant-loop-kind
invariant-loop-kind g l = RestOf (λ k. IsWithin g.F.ModuleFormat.format k (number_in l.numbers k)) l.kinds l.kind-index
