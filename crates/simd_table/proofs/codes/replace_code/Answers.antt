use Rattle.simd_table.proofs.Tables.{replace_row}
use Rattle.simd_table.proofs.codes.replace_code.Goals as goal

pub returns : goal.returns
returns c = replace_row c.args.shape
