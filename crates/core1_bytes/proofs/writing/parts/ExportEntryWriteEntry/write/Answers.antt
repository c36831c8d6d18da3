use Rattle.core1_bytes.proofs.Appending.{on_ok}
use Rattle.core1_bytes.proofs.Written.{export_appends}
use Rattle.core1_bytes.proofs.writing.parts.ExportEntryWriteEntry.write.Goals as goal

pub returns : goal.returns
returns c = on_ok c.write_export_desc.result c.write_export_desc.ensures
    (export_appends c.args.out.now c.write_name.new.out c.write_export_desc.new.out c.args.entry.now c.as_str.result.now c.as_str.ensures.bytes c.in_ok-write_name.ensures)
