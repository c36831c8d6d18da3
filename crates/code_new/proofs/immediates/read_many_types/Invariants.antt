use Rattle.std.proofs.Common.{◌≡◌, ◌-◌}
use Rattle.grammar_kit.specs.Form.{many}
use Rattle.grammar_kit.proofs.Loop.{with_front}
use Rattle.code_new.specs.Types.{value_type}
use Rattle.code_new.proofs.immediates.read_many_types.Given as goal

-- what was read so far and what is still to be read are what the whole count reads
abbrev pub invariant-loop : goal.invariant-loop
invariant-loop l = with_front l.types ((many value_type (l.count - l.counter)).read l.rest) ≡ (many value_type l.count).read l.bytes
