use Rattle.opcode_table.proofs.Tables.{comparison_row}
use Rattle.opcode_table.proofs.opcodes.comparison_opcode.Goals as goal

pub returns : goal.returns
returns c = comparison_row c.args.width c.args.op
