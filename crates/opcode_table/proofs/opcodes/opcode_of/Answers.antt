use Rattle.opcode_table.proofs.Tables.{opcode_alone}
use Rattle.opcode_table.proofs.opcodes.opcode_of.Goals as goal

pub returns-clause-alone : goal.returns-clause-alone
returns-clause-alone c opcode h = opcode_alone _ _ _ h c.row_of.ensures
