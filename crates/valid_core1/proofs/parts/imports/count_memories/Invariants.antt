use Rattle.std.proofs.Common.{◌≡◌, ◌+◌, ◌≤◌, drop}
use Rattle.valid_core1.specs.Parts.{memories_in}
use Rattle.valid_core1.proofs.parts.imports.count_memories.Given as goal

abbrev pub invariant-loop-import : goal.invariant-loop-import
invariant-loop-import l = (l.count + memories_in (drop l.import-index l.imports) ≡ memories_in l.imports) × (l.count ≤ l.import-index)
