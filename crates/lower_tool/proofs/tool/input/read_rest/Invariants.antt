use Rattle.std.proofs.Common.{length, ◌-◌, ◌+◌, ◌≡◌, ℕ, ◌≤◌, List, IsTrue}
use Rattle.std.specs.Io.KnownBytes.{Consumes}
use Rattle.module_reading.specs.Limits.{file_limit}
use Rattle.lower_tool.proofs.tool.input.read_rest.Given as goal

-- the bytes so far are what was taken, and nothing but reading went on
abbrev pub invariant-loop-piece : goal.invariant-loop-piece
invariant-loop-piece g l = record {
  within : length l.bytes ≤ file_limit + 1;
  taken : Consumes (g.F.Files.left l.initial.files) (g.F.Files.left l.files) l.bytes;
  reading : IsTrue (g.F.Files.is_reading l.files);
  later : g.F.Files.read_faults l.initial.files ≤ g.F.Files.read_faults l.files;
  held : g.F.Files.holds l.files ≡ g.F.Files.holds l.initial.files;
  created : g.F.Files.created l.files ≡ g.F.Files.created l.initial.files;
  writes : g.F.Files.write_faults l.files ≡ g.F.Files.write_faults l.initial.files;
  still : (other : List ℕ) → g.F.Files.can_begin l.initial.files other → g.F.Files.can_begin l.files other;
}

abbrev pub decreases-loop-piece : goal.decreases-loop-piece
decreases-loop-piece g l = file_limit + 1 - length l.bytes
