use Rattle.simd_table.proofs.Tables.{one_row}
use Rattle.simd_table.proofs.codes.one_code.Goals as goal

pub returns : goal.returns
returns c = one_row c.args.one
