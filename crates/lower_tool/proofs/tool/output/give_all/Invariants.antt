use Rattle.std.proofs.Common.{length, ◌-◌, ◌≡◌, ℕ, ◌≤◌, List, take}
use Rattle.tool_files.specs.Held.{Grows}
use Rattle.lower_tool.proofs.tool.output.give_all.Given as goal

-- the file has grown by the bytes as far as they are done
abbrev pub invariant-loop-done : goal.invariant-loop-done
invariant-loop-done g l = record {
  within : l.done ≤ length l.bytes;
  later : g.F.Files.write_faults l.initial.files ≤ g.F.Files.write_faults l.files;
  grows : Grows (g.F.Files.holds l.initial.files) (g.F.Files.holds l.files) (g.F.Files.created l.initial.files) (take l.done l.bytes);
  created : g.F.Files.created l.files ≡ g.F.Files.created l.initial.files;
  reads : g.F.Files.read_faults l.files ≡ g.F.Files.read_faults l.initial.files;
  still : (other : List ℕ) → g.F.Files.can_begin l.initial.files other → g.F.Files.can_begin l.files other;
}

abbrev pub decreases-loop-done : goal.decreases-loop-done
decreases-loop-done g l = length l.bytes - l.done
