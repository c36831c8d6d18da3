use Rattle.wasm_frame.proofs.Contents.{counted_front}
use Rattle.core1_bytes.specs.Types.{value_type}
use Rattle.core1_bytes.proofs.reading.measures.skip_types.Goals as goal

pub returns : goal.returns
returns c = counted_front value_type (λ t. 0) c.args.count c.args.bytes.now c.in_ok-rest.rest.now _ _ c.in_ok-rest.ensures
