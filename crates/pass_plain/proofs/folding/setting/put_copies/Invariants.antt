use Rattle.std.proofs.Common.{◌≡◌, ◌++◌, take}
use Rattle.pass_plain.proofs.folding.setting.put_copies.Given as goal

-- the instructions so far
abbrev pub invariant-loop-instr : goal.invariant-loop-instr
invariant-loop-instr l = l.out ≡ l.fn.out ++ take l.instr-index l.code
