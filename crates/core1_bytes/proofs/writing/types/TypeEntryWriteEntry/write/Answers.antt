use Rattle.core1_bytes.proofs.Appending.{on_ok}
use Rattle.core1_bytes.proofs.Written.{func_type_appends}
use Rattle.core1_bytes.proofs.writing.types.TypeEntryWriteEntry.write.Goals as goal

pub returns : goal.returns
returns c = on_ok c.write_vector-2.result c.write_vector-2.ensures
    (func_type_appends c.args.out.now c.write_byte.new.out c.write_vector.new.out c.write_vector-2.new.out c.args.entry.now c.as_slice.result.now c.as_slice-2.result.now
    c.as_slice.ensures c.as_slice-2.ensures c.in_ok-write_byte.ensures c.in_ok-write_vector.ensures)
