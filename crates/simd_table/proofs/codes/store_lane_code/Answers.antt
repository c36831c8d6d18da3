use Rattle.simd_table.proofs.Tables.{store_lane_row}
use Rattle.simd_table.proofs.codes.store_lane_code.Goals as goal

pub returns : goal.returns
returns c = store_lane_row c.args.shape
