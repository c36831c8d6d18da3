use Rattle.std.proofs.Common.{◌≡◌, ◌-◌}
use Rattle.grammar_kit.specs.Form.{many}
use Rattle.grammar_kit.proofs.Loop.{with_front}
use Rattle.grammar_kit.proofs.entry.read_many.Given as goal

-- what was read so far and what is still to be read are what the whole count reads
abbrev pub invariant-loop : goal.invariant-loop
invariant-loop g l = with_front l.entries ((many g.E.Entry.form (l.count - l.counter)).read l.rest) ≡ (many g.E.Entry.form l.count).read l.bytes
