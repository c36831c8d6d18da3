use Rattle.std.proofs.Common.{◌≡◌, ◌++◌, map, length}
use Rattle.pass_plain.specs.Folding.{setting_node}
use Rattle.pass_plain.proofs.folding.starting.setting_nodes.Given as goal

-- the nodes so far, and behind them those of the other instructions
abbrev pub invariant-loop-instr : goal.invariant-loop-instr
invariant-loop-instr l = map (setting_node l.globals) l.initial.rest ≡ l.nodes ++ map (setting_node l.globals) l.rest

abbrev pub decreases-loop-instr : goal.decreases-loop-instr
decreases-loop-instr l = length l.rest
