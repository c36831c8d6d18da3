use Rattle.std.proofs.Common.{sym, arith}
use Rattle.opcode_table.proofs.Tables.{operator_at, no_operator}
use Rattle.opcode_table.proofs.operators.operator_of.Goals as goal

pub returns-then-opcode-lt69 : goal.returns-then-opcode-lt69
returns-then-opcode-lt69 c = sym (no_operator c.args.opcode c.then-opcode-lt69.either)

pub returns : goal.returns
returns c = operator_at c.args.opcode _ (omega arith) (omega arith)
