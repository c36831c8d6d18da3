use Rattle.std.proofs.Common.{sym, arith}
use Rattle.opcode_table.proofs.Tables.{load_at, no_load}
use Rattle.opcode_table.proofs.accesses.load_of.Goals as goal

pub returns-then-opcode-lt40 : goal.returns-then-opcode-lt40
returns-then-opcode-lt40 c = sym (no_load c.args.opcode c.then-opcode-lt40.either)

pub returns : goal.returns
returns c = load_at c.args.opcode _ (omega arith) (omega arith)
