use Rattle.core1_bytes.proofs.Appending.{on_ok}
use Rattle.core1_bytes.proofs.Nested.{plain_appends}
use Rattle.core1_bytes.proofs.writing.code.write_plain.Goals as goal

pub returns : goal.returns
returns c = on_ok c.write_immediates.result c.write_immediates.ensures
    (plain_appends c.args.out.now c.write_byte.new.out c.write_immediates.new.out c.args.instr.now c.opcode.result c.opcode.ensures c.in_ok-write_byte.ensures)
