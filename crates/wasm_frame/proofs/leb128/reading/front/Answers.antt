use Rattle.wasm_frame.proofs.Front.{rest_within, read_at_front, none_at_front}
use Rattle.wasm_frame.proofs.leb128.reading.front.Goals as goal

pub returns-in_err-bits-clause-none : goal.returns-in_err-bits-clause-none
returns-in_err-bits-clause-none c =
    rw c.from_residual.ensures (none_at_front c.args.sign c.args.width c.args.bytes.now c.requires.some c.in_err-bits.ensures.gives)

pub overflow_sub-result : goal.overflow_sub-result
overflow_sub-result c =
    rest_within c.args.sign c.args.width c.args.bytes.now c.in_ok-bits.bits c.in_ok-bits.rest.now c.requires.some c.in_ok-bits.ensures.gives

pub returns-clause-found : goal.returns-clause-found
returns-clause-found c =
    read_at_front c.args.sign c.args.width c.args.bytes.now c.in_ok-bits.bits c.in_ok-bits.rest.now c.requires.some c.in_ok-bits.ensures.gives
