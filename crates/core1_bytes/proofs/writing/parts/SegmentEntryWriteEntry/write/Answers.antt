use Rattle.std.proofs.Common.{ℕ, List, subst}
use Rattle.wasm_frame.specs.Name.{byte_vector}
use Rattle.core1_bytes.specs.Appends.{Appends}
use Rattle.core1_bytes.proofs.Appending.{on_ok}
use Rattle.core1_bytes.proofs.Written.{segment_appends}
use Rattle.core1_bytes.proofs.writing.parts.SegmentEntryWriteEntry.write.Goals as goal

pub returns : goal.returns
returns c = on_ok c.write_bytes.result c.write_bytes.ensures (λ p.
    segment_appends c.args.out.now c.write_u32.new.out c.write_expr.new.out c.write_bytes.new.out c.args.entry.now c.in_ok-write_u32.ensures c.in_ok-write_expr.ensures
    (subst (λ (bytes : List ℕ). Appends byte_vector c.write_expr.new.out c.write_bytes.new.out bytes) c.as_slice.ensures p))
