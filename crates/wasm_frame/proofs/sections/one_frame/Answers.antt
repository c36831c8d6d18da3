use Rattle.wasm_frame.proofs.Frames.{one_frame}
use Rattle.wasm_frame.proofs.sections.one_frame.Goals as goal

pub returns : goal.returns
returns c = one_frame
