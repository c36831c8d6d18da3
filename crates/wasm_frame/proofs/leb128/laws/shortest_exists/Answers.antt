use Rattle.wasm_frame.proofs.Spelling.{shortest_exists}
use Rattle.wasm_frame.proofs.leb128.laws.shortest_exists.Goals as goal

pub returns : goal.returns
returns c = shortest_exists
