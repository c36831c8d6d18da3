use Rattle.core1_bytes.proofs.Appending.{on_ok}
use Rattle.core1_bytes.proofs.Written.{global_type_appends}
use Rattle.core1_bytes.proofs.writing.types.write_global_type.Goals as goal

pub returns : goal.returns
returns c = on_ok c.write_mutability.result c.write_mutability.ensures
    (global_type_appends c.args.out.now c.write_value_type.new.out c.write_mutability.new.out c.args.ty c.args.mutable c.in_ok-write_value_type.ensures)
