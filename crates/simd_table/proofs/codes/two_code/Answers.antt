use Rattle.simd_table.proofs.Tables.{two_row}
use Rattle.simd_table.proofs.codes.two_code.Goals as goal

pub returns : goal.returns
returns c = two_row c.args.two
