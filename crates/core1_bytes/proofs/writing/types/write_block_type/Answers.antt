use Rattle.core1_bytes.proofs.Appending.{on_ok}
use Rattle.core1_bytes.proofs.Nested.{empty_appends, one_appends}
use Rattle.core1_bytes.proofs.writing.types.write_block_type.Goals as goal

pub returns-in-Empty : goal.returns-in-Empty
returns-in-Empty c = rw c.in-Empty.is (on_ok c.write_byte.result c.write_byte.ensures (empty_appends c.args.out.now c.write_byte.new.out))

pub returns-in-One : goal.returns-in-One
returns-in-One c = rw c.in-One.is (on_ok c.write_byte-in-One.result c.write_byte-in-One.ensures (λ p.
    one_appends c.args.out.now c.write_byte-in-One.new.out c.in-One.ty c.type_byte.result c.type_byte.ensures p))
