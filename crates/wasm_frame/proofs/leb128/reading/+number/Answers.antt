use Rattle.std.proofs.Common.{arith}
use Rattle.wasm_frame.proofs.Powers.{seven_more, within_64}
use Rattle.wasm_frame.proofs.leb128.reading.+number.Goals as goal

pub overflow_mul-result : goal.overflow_mul-result
overflow_mul-result t c = omega (arith, within_64 c.args.width c.requires.fits, seven_more c.args.width (omega arith), c.in_ok-high.ensures.range)

pub overflow_add-result : goal.overflow_add-result
overflow_add-result t c = omega (arith, within_64 c.args.width c.requires.fits, seven_more c.args.width (omega arith), c.in_ok-high.ensures.range)
