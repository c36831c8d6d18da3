use Rattle.core1_bytes.proofs.Appending.{on_ok}
use Rattle.core1_bytes.proofs.Written.{export_desc_appends}
use Rattle.core1_bytes.proofs.writing.parts.write_export_desc.Goals as goal

pub returns : goal.returns
returns c = on_ok c.write_u32.result c.write_u32.ensures
    (export_desc_appends c.args.out.now c.write_byte.new.out c.write_u32.new.out c.args.desc c.export_kind.result c.export_index.result c.export_kind.ensures c.export_index.ensures c.in_ok-write_byte.ensures)
