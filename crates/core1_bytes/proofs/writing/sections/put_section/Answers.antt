use Rattle.std.proofs.Common.{ℕ, List, subst}
use Rattle.wasm_frame.specs.Name.{byte_vector}
use Rattle.core1_bytes.specs.Appends.{Appends}
use Rattle.core1_bytes.proofs.Appending.{on_ok}
use Rattle.core1_bytes.proofs.Sections.{section_appends}
use Rattle.core1_bytes.proofs.writing.sections.put_section.Goals as goal

pub returns : goal.returns
returns c = on_ok c.write_bytes.result c.write_bytes.ensures (λ p.
    section_appends c.args.out.now c.write_byte.new.out c.write_bytes.new.out c.args.payload.now c.args.id c.in_ok-write_byte.ensures
    (subst (λ (bytes : List ℕ). Appends byte_vector c.write_byte.new.out c.write_bytes.new.out bytes) c.as_slice.ensures p))
