use Rattle.core1_bytes.proofs.Instructions.{begins_convert}
use Rattle.core1_bytes.proofs.writing.opcodes.op_opcode.Goals as goal

pub returns-in-Convert : goal.returns-in-Convert
returns-in-Convert c = rw c.in-Convert.is (begins_convert c.in-Convert.op c.conversion.result c.opcode_of-in-Convert.result c.opcode_of-in-Convert.ensures.row c.conversion.ensures)
