use Rattle.std.proofs.Common.{sym, arith}
use Rattle.simd_table.proofs.Tables.{name_at, no_name}
use Rattle.simd_table.proofs.names.name_of.Goals as goal

pub returns-then-code-ge224 : goal.returns-then-code-ge224
returns-then-code-ge224 c = sym (no_name c.args.code (omega arith))

pub returns : goal.returns
returns c = name_at c.args.code _ (omega arith)
