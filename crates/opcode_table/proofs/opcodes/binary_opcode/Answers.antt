use Rattle.opcode_table.proofs.Tables.{binary_row}
use Rattle.opcode_table.proofs.opcodes.binary_opcode.Goals as goal

pub returns : goal.returns
returns c = binary_row c.args.width c.args.op
