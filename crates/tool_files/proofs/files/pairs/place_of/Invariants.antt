use Rattle.std.proofs.Common.{◌≡◌, drop}
use Rattle.tool_files.specs.Memory.{content_of}
use Rattle.tool_files.proofs.files.pairs.place_of.Given as goal

-- the name stands in no pair so far
abbrev pub invariant-loop-place : goal.invariant-loop-place
invariant-loop-place l = content_of (drop l.place l.files) l.name ≡ content_of l.files l.name
