use Rattle.wasm_frame.proofs.Text.{custom_read}
use Rattle.wasm_frame.proofs.names.is_custom.Goals as goal

pub returns : goal.returns
returns c = rw c.is_some.ensures (custom_read (λ p. (p.0.now, p.1.now)) c.args.payload.now c.split_name.result c.split_name.ensures)
