use Rattle.wasm_frame.proofs.Contents.{counted_front}
use Rattle.wasm_frame.specs.Leb128.{u32}
use Rattle.core1_bytes.proofs.reading.measures.skip_many_indices.Goals as goal

pub returns : goal.returns
returns c = counted_front u32 (λ t. 0) c.args.count c.args.bytes.now c.in_ok-rest.rest.now _ _ c.in_ok-rest.ensures
