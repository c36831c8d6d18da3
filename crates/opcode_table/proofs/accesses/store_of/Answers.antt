use Rattle.std.proofs.Common.{sym, arith}
use Rattle.opcode_table.proofs.Tables.{store_at, no_store}
use Rattle.opcode_table.proofs.accesses.store_of.Goals as goal

pub returns-then-opcode-lt54 : goal.returns-then-opcode-lt54
returns-then-opcode-lt54 c = sym (no_store c.args.opcode c.then-opcode-lt54.either)

pub returns : goal.returns
returns c = store_at c.args.opcode _ (omega arith) (omega arith)
