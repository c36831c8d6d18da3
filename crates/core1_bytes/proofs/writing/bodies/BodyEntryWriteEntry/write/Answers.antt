use Rattle.std.proofs.Common.{ℕ, List, subst}
use Rattle.wasm_frame.specs.Name.{byte_vector}
use Rattle.core1_bytes.specs.Appends.{Appends}
use Rattle.core1_bytes.proofs.Appending.{on_ok}
use Rattle.core1_bytes.proofs.Written.{body_appends}
use Rattle.core1_bytes.proofs.writing.bodies.BodyEntryWriteEntry.write.Goals as goal

pub returns : goal.returns
returns c = on_ok c.write_bytes.result c.write_bytes.ensures (λ p.
    body_appends c.args.out.now c.write_bytes.new.out c.in_ok-text.text c.args.entry.now c.in_ok-text.ensures
    (subst (λ (bytes : List ℕ). Appends byte_vector c.args.out.now c.write_bytes.new.out bytes) c.as_slice.ensures p))
