use Rattle.simd_table.proofs.Tables.{shift_row}
use Rattle.simd_table.proofs.codes.shift_code.Goals as goal

pub returns : goal.returns
returns c = shift_row c.args.shift
