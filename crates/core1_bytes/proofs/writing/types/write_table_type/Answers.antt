use Rattle.core1_bytes.proofs.Appending.{on_ok}
use Rattle.core1_bytes.proofs.Written.{table_type_appends}
use Rattle.core1_bytes.proofs.writing.types.write_table_type.Goals as goal

pub returns : goal.returns
returns c = on_ok c.write_limits.result c.write_limits.ensures
    (table_type_appends c.args.out.now c.write_byte.new.out c.write_limits.new.out c.args.table c.in_ok-write_byte.ensures)
