use Rattle.std.proofs.Common.{subst}
use Rattle.core1_bytes.specs.Types.{block_type}
use Rattle.core1_bytes.specs.Appends.{Appends}
use Rattle.core1_bytes.proofs.Appending.{on_ok}
use Rattle.core1_bytes.proofs.Nested.{head_appends}
use Rattle.core1_bytes.proofs.writing.code.write_head.Goals as goal

pub returns : goal.returns
returns c = on_ok c.write_block_type.result c.write_block_type.ensures (λ p.
    head_appends c.args.out.now c.write_byte.new.out c.write_block_type.new.out c.args.head
    c.head_opcode.result c.head_opcode.ensures c.in_ok-write_byte.ensures
    (subst (λ t. Appends block_type c.write_byte.new.out c.write_block_type.new.out t) c.block_type_of.ensures p))
