use Rattle.core1_bytes.proofs.Appending.{on_ok}
use Rattle.core1_bytes.proofs.Written.{element_appends}
use Rattle.core1_bytes.proofs.writing.parts.ElementEntryWriteEntry.write.Goals as goal

pub returns : goal.returns
returns c = on_ok c.write_vector.result c.write_vector.ensures
    (element_appends c.args.out.now c.write_u32.new.out c.write_expr.new.out c.write_vector.new.out c.args.entry.now c.as_slice.result.now c.as_slice.ensures c.in_ok-write_u32.ensures c.in_ok-write_expr.ensures)
