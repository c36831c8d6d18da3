use Rattle.std.proofs.Common.{◌≡◌, ℕ, List, [], subst}
use Rattle.grammar_kit.specs.Form.{vector}
use Rattle.wasm_frame.specs.Leb128.{u32}
use Rattle.core1_bytes.specs.Appends.{Appends}
use Rattle.core1_bytes.proofs.Appending.{on_ok}
use Rattle.core1_bytes.proofs.Sections.{section_present, alone}
use Rattle.core1_bytes.proofs.writing.sections.write_section.Goals as goal

pub returns : goal.returns
returns g c = on_ok c.put_section.result c.put_section.ensures
    (section_present c.args.id (c.args.entries.now ≡ []) (λ p. (vector u32 g.E.Entry.form).text p c.args.entries.now) c.args.out.now c.put_section.new.out c.write_vector.new.out
    (alone (λ b. (vector u32 g.E.Entry.form).text b c.args.entries.now) c.write_vector.new.out
    (subst (λ (start : List ℕ). Appends (vector u32 g.E.Entry.form) start c.write_vector.new.out c.args.entries.now) c.new-payload.ensures c.in_ok-write_vector.ensures)))
