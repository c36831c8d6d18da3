use Rattle.core1_bytes.proofs.Appending.{on_ok}
use Rattle.core1_bytes.proofs.Written.{least_appends, bounded_appends}
use Rattle.core1_bytes.proofs.writing.types.write_limits.Goals as goal

pub returns-in_ok-write_byte-in-None : goal.returns-in_ok-write_byte-in-None
returns-in_ok-write_byte-in-None c = on_ok c.write_u32.result c.write_u32.ensures
    (least_appends c.args.out.now c.write_byte.new.out c.write_u32.new.out c.args.size c.in-None.is c.in_ok-write_byte-in-None.ensures)

pub returns-in_ok-write_u32-in-Some : goal.returns-in_ok-write_u32-in-Some
returns-in_ok-write_u32-in-Some c = on_ok c.write_u32-in-Some-2.result c.write_u32-in-Some-2.ensures
    (bounded_appends c.args.out.now c.write_byte-in-Some.new.out c.write_u32-in-Some.new.out c.write_u32-in-Some-2.new.out c.args.size c.in-Some.max c.in-Some.is c.in_ok-write_byte-in-Some.ensures c.in_ok-write_u32-in-Some.ensures)
