use Rattle.simd_table.proofs.Tables.{test_row}
use Rattle.simd_table.proofs.codes.test_code.Goals as goal

pub returns : goal.returns
returns c = test_row c.args.test
