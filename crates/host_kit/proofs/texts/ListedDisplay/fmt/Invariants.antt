use Rattle.std.proofs.Common.{◌++◌, take}
use Rattle.std.specs.Prelude.{codes}
use Rattle.std.specs.List.{flat_map}
use Rattle.std.specs.Fmt.{HasWritten, IsPlainFormatter}
use Rattle.host_kit.specs.Texts.{value_text}
use Rattle.host_kit.proofs.texts.ListedDisplay.fmt.Given as goal

-- the values behind the first, so far
abbrev pub invariant-loop-value : goal.invariant-loop-value
invariant-loop-value g l =
    IsPlainFormatter l.initial.f → HasWritten g.W.Write.write_str_gives l.initial.f (flat_map (λ v. codes ", " ++ value_text v) (take l.value-index l.rest)) l.f
