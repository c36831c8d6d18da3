use Rattle.simd_table.proofs.Tables.{extract_row}
use Rattle.simd_table.proofs.codes.extract_code.Goals as goal

pub returns : goal.returns
returns c = extract_row c.args.extract
