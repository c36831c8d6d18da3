use Rattle.wasm_frame.proofs.TwosComplement.{bits_apart}
use Rattle.wasm_frame.proofs.leb128.laws.bits_tell_numbers_apart.Goals as goal

pub returns : goal.returns
returns c = bits_apart
