use Rattle.core1_bytes.proofs.Appending.{on_ok}
use Rattle.core1_bytes.proofs.Written.{import_appends}
use Rattle.core1_bytes.proofs.writing.parts.ImportEntryWriteEntry.write.Goals as goal

pub returns : goal.returns
returns c = on_ok c.write_import_desc.result c.write_import_desc.ensures
    (import_appends c.args.out.now c.write_name.new.out c.write_name-2.new.out c.write_import_desc.new.out c.args.entry.now c.as_str.result.now c.as_str-2.result.now
    c.as_str.ensures.bytes c.as_str-2.ensures.bytes c.in_ok-write_name.ensures c.in_ok-write_name-2.ensures)
