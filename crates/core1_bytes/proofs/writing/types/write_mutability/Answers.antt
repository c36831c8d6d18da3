use Rattle.core1_bytes.proofs.Appending.{on_ok}
use Rattle.core1_bytes.proofs.Written.{mutable_appends, immutable_appends}
use Rattle.core1_bytes.proofs.writing.types.write_mutability.Goals as goal

pub returns-then-mutable : goal.returns-then-mutable
returns-then-mutable c = rw c.if-mutable.true (on_ok c.write_byte.result c.write_byte.ensures (mutable_appends c.args.out.now c.write_byte.new.out))

pub returns-else-mutable : goal.returns-else-mutable
returns-else-mutable c = rw c.if-mutable.false (on_ok c.write_byte-else-mutable.result c.write_byte-else-mutable.ensures (immutable_appends c.args.out.now c.write_byte-else-mutable.new.out))
