use Rattle.std.proofs.Common.{take, ◌+◌, ◌*◌}
use Rattle.grammar_kit.specs.Measures.{greatest as greatest_of}
use Rattle.core1_bytes.specs.Nesting.{depth}
use Rattle.core1_bytes.specs.Appends.{AppendsCode}
use Rattle.core1_bytes.proofs.writing.code.+writes.Given as goal

-- the instructions so far are spelled
abbrev pub invariant-write_code-loop-instr : goal.invariant-write_code-loop-instr
invariant-write_code-loop-instr l = AppendsCode l.initial.out l.out (take l.instr-index l.code)

-- code is as deep as its deepest instruction, and an instruction deeper than its code
abbrev pub decreases-write_code : goal.decreases-write_code
decreases-write_code l = 2 * greatest_of depth l.code.now + 1

abbrev pub decreases-write_instr : goal.decreases-write_instr
decreases-write_instr l = 2 * depth l.instr.now
