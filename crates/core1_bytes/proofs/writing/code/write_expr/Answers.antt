use Rattle.core1_bytes.proofs.Appending.{on_ok}
use Rattle.core1_bytes.proofs.Nested.{expr_appends}
use Rattle.core1_bytes.proofs.writing.code.write_expr.Goals as goal

pub returns : goal.returns
returns c = on_ok c.write_byte.result c.write_byte.ensures (expr_appends c.args.out.now c.write_code.new.out c.write_byte.new.out c.args.code.now c.in_ok-write_code.ensures)
