use Rattle.std.proofs.Common.{◌≡◌, ◌++◌, length, option_map}
use Rattle.host_kit.specs.ScriptForms.{hex_bytes}
use Rattle.host_kit.proofs.words.hex_bytes.Given as goal

-- the bytes so far stand in front of those of the rest
abbrev pub invariant-loop-rest : goal.invariant-loop-rest
invariant-loop-rest l = hex_bytes l.digits ≡ option_map (λ more. l.bytes ++ more) (hex_bytes l.rest)

abbrev pub decreases-loop-rest : goal.decreases-loop-rest
decreases-loop-rest l = length l.rest
