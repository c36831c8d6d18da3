use Rattle.std.proofs.Common.{◌≡◌, take, string_bytes}
use Rattle.host_kit.specs.Texts.{events_text}
use Rattle.host_kit.proofs.texts.print.Given as goal

-- the lines so far
abbrev pub invariant-loop-event : goal.invariant-loop-event
invariant-loop-event l = string_bytes l.text ≡ events_text (take l.event-index l.events)
