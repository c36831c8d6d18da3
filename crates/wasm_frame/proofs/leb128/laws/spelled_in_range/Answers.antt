use Rattle.wasm_frame.proofs.Spelling.{in_range, length_within}
use Rattle.wasm_frame.proofs.leb128.laws.spelled_in_range.Goals as goal

pub returns-clause-range : goal.returns-clause-range
returns-clause-range c = in_range

pub returns-clause-length : goal.returns-clause-length
returns-clause-length c = length_within
