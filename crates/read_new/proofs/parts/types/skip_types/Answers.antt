use Rattle.wasm_frame.proofs.Contents.{counted_front}
use Rattle.code_new.specs.Types.{value_type}
use Rattle.read_new.proofs.parts.types.skip_types.Goals as goal

pub returns : goal.returns
returns c = counted_front value_type (λ t. 0) c.args.count c.args.bytes.now c.in_ok-rest.rest.now _ _ c.in_ok-rest.ensures
