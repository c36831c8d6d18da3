use Rattle.std.proofs.Common.{◌<◌, ◌^◌, ◌%◌, ◌∙◌, arith, lit<, w32, FitsSigned, rules}
use Rattle.num_core.proofs.Turns.{through, shifts_signed}
use Rattle.num_core.proofs.operations.int32.shift_signed.Goals as goal

pub returns : goal.returns
returns c =
    let within : c.args.a < 2 ^ 32 = omega arith in
    let fits_x : FitsSigned w32 c.cast_signed.result = search rules in
    let fits_y : FitsSigned w32 c.wrapping_shr.result = search rules in
    through w32 c.args.a (c.args.b % 32) c.cast_unsigned.result c.cast_signed.result c.wrapping_shr.result fits_x fits_y c.cast_signed.ensures c.wrapping_shr.ensures c.cast_unsigned.ensures
    ∙ shifts_signed 32 c.args.b c.args.a (lit< tt) within
