use Rattle.std.proofs.Common.{◌<◌, ◌^◌, ◌%◌, ◌∙◌, arith, lit<, w64, FitsSigned, rules}
use Rattle.num_core.proofs.Turns.{through, shifts_signed, shifts_signed_twice}
use Rattle.num_core.proofs.operations.int64.shift_signed.Goals as goal

pub returns : goal.returns
returns c =
    let within : c.args.a < 2 ^ 64 = omega arith in
    let fits_x : FitsSigned w64 c.cast_signed.result = search rules in
    let fits_y : FitsSigned w64 c.wrapping_shr.result = search rules in
    through w64 c.args.a ((c.args.b % 64) % 64) c.cast_unsigned.result c.cast_signed.result c.wrapping_shr.result fits_x fits_y c.cast_signed.ensures c.wrapping_shr.ensures c.cast_unsigned.ensures
    ∙ shifts_signed 64 (c.args.b % 64) c.args.a (lit< tt) within ∙ shifts_signed_twice 64 c.args.b c.args.a (lit< tt)
