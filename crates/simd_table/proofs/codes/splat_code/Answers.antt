use Rattle.simd_table.proofs.Tables.{splat_row}
use Rattle.simd_table.proofs.codes.splat_code.Goals as goal

pub returns : goal.returns
returns c = splat_row c.args.shape
