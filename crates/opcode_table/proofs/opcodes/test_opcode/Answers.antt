use Rattle.opcode_table.proofs.Tables.{test_row}
use Rattle.opcode_table.proofs.opcodes.test_opcode.Goals as goal

pub returns : goal.returns
returns c = test_row c.args.width
