use Rattle.core1_bytes.proofs.Appending.{on_ok}
use Rattle.core1_bytes.proofs.Written.{global_appends}
use Rattle.core1_bytes.proofs.writing.parts.GlobalEntryWriteEntry.write.Goals as goal

pub returns : goal.returns
returns c = on_ok c.write_expr.result c.write_expr.ensures
    (global_appends c.args.out.now c.write_global_type.new.out c.write_expr.new.out c.args.entry.now c.in_ok-write_global_type.ensures)
