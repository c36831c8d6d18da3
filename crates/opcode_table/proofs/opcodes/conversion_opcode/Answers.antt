use Rattle.opcode_table.proofs.Tables.{conversion_row}
use Rattle.opcode_table.proofs.opcodes.conversion_opcode.Goals as goal

pub returns : goal.returns
returns c = conversion_row c.args.op
