use Rattle.opcode_table.proofs.Tables.{unary_row}
use Rattle.opcode_table.proofs.opcodes.unary_opcode.Goals as goal

pub returns : goal.returns
returns c = unary_row c.args.width c.args.op
