use Rattle.std.proofs.Common.{take}
use Rattle.std.specs.Fmt.{HasWritten, IsPlainFormatter}
use Rattle.host_kit.specs.Texts.{bytes_text}
use Rattle.host_kit.proofs.texts.HexDisplay.fmt.Given as goal

-- the digits so far
abbrev pub invariant-loop-byte : goal.invariant-loop-byte
invariant-loop-byte g l = IsPlainFormatter l.initial.f → HasWritten g.W.Write.write_str_gives l.initial.f (bytes_text (take l.byte-index l.byte-items)) l.f
