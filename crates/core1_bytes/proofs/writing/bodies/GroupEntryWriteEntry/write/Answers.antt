use Rattle.core1_bytes.proofs.Appending.{on_ok}
use Rattle.core1_bytes.proofs.Written.{group_appends}
use Rattle.core1_bytes.proofs.writing.bodies.GroupEntryWriteEntry.write.Goals as goal

pub returns : goal.returns
returns c = on_ok c.write_value_type.result c.write_value_type.ensures (group_appends c.args.out.now c.write_u32.new.out c.write_value_type.new.out c.args.entry.now c.in_ok-write_u32.ensures)
