use Rattle.std.proofs.Common.{take}
use Rattle.grammar_kit.specs.Form.{many}
use Rattle.core1_bytes.specs.Appends.{Appends}
use Rattle.core1_bytes.proofs.writing.entry.write_many.Given as goal

-- the entries so far are spelled
abbrev pub invariant-loop-entry : goal.invariant-loop-entry
invariant-loop-entry g l = Appends (many g.E.Entry.form l.entry-index) l.initial.out l.out (take l.entry-index l.entries)
