use Rattle.simd_table.proofs.Tables.{load_lane_row}
use Rattle.simd_table.proofs.codes.load_lane_code.Goals as goal

pub returns : goal.returns
returns c = load_lane_row c.args.shape
