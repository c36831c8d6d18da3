use Rattle.std.proofs.Common.{◌≡◌, true, take}
use Rattle.ranges_core1.specs.Ranges.{are_in_range}
use Rattle.pass_cross.specs.Short.{are_short_inside}
use Rattle.pass_cross.proofs.lengths.+lengths.Given as goal

-- the instructions so far have short lists inside, and their constants are in range
abbrev pub invariant-are_short_inside-loop-instr : goal.invariant-are_short_inside-loop-instr
invariant-are_short_inside-loop-instr l = record {
  short : are_short_inside (take l.instr-index l.code) ≡ true;
  ranges : are_in_range (take l.instr-index l.code) ≡ true;
}
