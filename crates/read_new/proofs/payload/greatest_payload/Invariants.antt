use Rattle.std.proofs.Common.{◌≡◌, max, drop}
use Rattle.grammar_kit.specs.Measures.{greatest}
use Rattle.read_new.specs.Limits.{payload_words}
use Rattle.read_new.proofs.payload.greatest_payload.Given as goal

-- the greatest so far and that of the tags that are left are that of all
abbrev pub invariant-loop-tag : goal.invariant-loop-tag
invariant-loop-tag l = max l.most (greatest (payload_words l.types) (drop l.tag-index l.tags)) ≡ greatest (payload_words l.types) l.tags
