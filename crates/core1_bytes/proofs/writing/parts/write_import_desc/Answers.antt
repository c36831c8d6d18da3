use Rattle.core1_bytes.proofs.Appending.{on_ok}
use Rattle.core1_bytes.proofs.Written.{import_func, import_table, import_memory, import_global}
use Rattle.core1_bytes.proofs.writing.parts.write_import_desc.Goals as goal

pub returns-in_ok-write_byte-in-Func : goal.returns-in_ok-write_byte-in-Func
returns-in_ok-write_byte-in-Func c = rw c.in-Func.is (on_ok c.write_u32.result c.write_u32.ensures
    (import_func c.args.out.now c.write_byte.new.out c.write_u32.new.out c.in-Func.index c.in_ok-write_byte-in-Func.ensures))

pub returns-in_ok-write_byte-in-Table : goal.returns-in_ok-write_byte-in-Table
returns-in_ok-write_byte-in-Table c = rw c.in-Table.is (on_ok c.write_table_type.result c.write_table_type.ensures
    (import_table c.args.out.now c.write_byte-in-Table.new.out c.write_table_type.new.out c.in-Table.table c.in_ok-write_byte-in-Table.ensures))

pub returns-in_ok-write_byte-in-Memory : goal.returns-in_ok-write_byte-in-Memory
returns-in_ok-write_byte-in-Memory c = rw c.in-Memory.is (on_ok c.write_limits.result c.write_limits.ensures
    (import_memory c.args.out.now c.write_byte-in-Memory.new.out c.write_limits.new.out c.in-Memory.memory c.in_ok-write_byte-in-Memory.ensures))

pub returns-in_ok-write_byte-in-Global : goal.returns-in_ok-write_byte-in-Global
returns-in_ok-write_byte-in-Global c = rw c.in-Global.is (on_ok c.write_global_type.result c.write_global_type.ensures
    (import_global c.args.out.now c.write_byte-in-Global.new.out c.write_global_type.new.out c.in-Global.ty c.in-Global.mutable c.in_ok-write_byte-in-Global.ensures))
