use Rattle.core1_bytes.proofs.Appending.{on_ok}
use Rattle.core1_bytes.proofs.Nested.{type_appends}
use Rattle.core1_bytes.proofs.writing.types.write_value_type.Goals as goal

pub returns : goal.returns
returns c = on_ok c.write_byte.result c.write_byte.ensures (type_appends c.args.out.now c.write_byte.new.out c.args.ty c.type_byte.result c.type_byte.ensures)
