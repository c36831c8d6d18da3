use Rattle.std.proofs.Common.{length, ◌-◌, ◌≤◌, take}
use Rattle.std.specs.Io.KnownBytes.{Appends}
use Rattle.lower_tool.proofs.tool.print.print_all.Given as goal

-- the text as far as it is done stands behind what was written at first
abbrev pub invariant-loop-done : goal.invariant-loop-done
invariant-loop-done g l = record {
  within : l.done ≤ length l.text;
  later : g.S.Sink.faults l.initial.out ≤ g.S.Sink.faults l.out;
  so_far : Appends (g.S.Sink.written l.initial.out) (g.S.Sink.written l.out) (take l.done l.text);
}

abbrev pub decreases-loop-done : goal.decreases-loop-done
decreases-loop-done g l = length l.text - l.done
