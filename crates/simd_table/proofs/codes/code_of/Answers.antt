use Rattle.simd_table.proofs.Tables.{one_code_only}
use Rattle.simd_table.proofs.codes.code_of.Goals as goal

pub returns-clause-alone : goal.returns-clause-alone
returns-clause-alone c code h = one_code_only _ _ _ h (rw c.from.ensures c.row_of.ensures)
