use Rattle.simd_table.proofs.Tables.{load_row}
use Rattle.simd_table.proofs.codes.load_code.Goals as goal

pub returns : goal.returns
returns c = load_row c.args.load
