use Rattle.grammar_kit.proofs.Consequences.{one_front}
use Rattle.wasm_frame.specs.Leb128.{integer}
use Rattle.wasm_frame.proofs.Spelling.{exact_integer}
use Rattle.wasm_frame.proofs.leb128.laws.one_spelling_in_front.Goals as goal

pub returns : goal.returns
returns c = λ sign w t u x y m n lt p q e. let k = one_front (integer sign w) (exact_integer sign w lt) t u x y m n e p q in (k.0, k.1)
