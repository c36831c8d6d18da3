use Rattle.std.proofs.Common.{ℕ, List, subst}
use Rattle.grammar_kit.specs.Form.{vector}
use Rattle.wasm_frame.specs.Leb128.{u32}
use Rattle.core1_bytes.specs.Appends.{Appends}
use Rattle.core1_bytes.proofs.Appending.{on_ok, appends_both}
use Rattle.core1_bytes.proofs.writing.code.write_immediates.Goals as goal

pub returns-in_ok-write_vector-in-BrTable : goal.returns-in_ok-write_vector-in-BrTable
returns-in_ok-write_vector-in-BrTable c = rw c.in-BrTable.is (on_ok c.write_u32-in-BrTable.result c.write_u32-in-BrTable.ensures
    (appends_both (λ t. (vector u32 u32).text t c.in-BrTable.labels) (λ u. u32.text u c.in-BrTable.last) c.args.out.now c.write_vector.new.out c.write_u32-in-BrTable.new.out
    (subst (λ (ls : List ℕ). Appends (vector u32 u32) c.args.out.now c.write_vector.new.out ls) c.as_slice.ensures c.in_ok-write_vector-in-BrTable.ensures)))
