use Rattle.std.proofs.Common.{◌≡◌, ℕ, List, None, Some, sym, subst}
use Rattle.wasm_frame.specs.Leb128.{u32}
use Rattle.core1_bytes.specs.Appends.{Appends}
use Rattle.core1_bytes.specs.Parts.{start_section}
use Rattle.core1_bytes.proofs.Appending.{on_ok, mapped}
use Rattle.core1_bytes.proofs.Sections.{section_present, alone}
use Rattle.core1_bytes.proofs.writing.sections.write_start.Goals as goal

pub returns : goal.returns
returns c = on_ok c.put_section.result c.put_section.ensures
    (section_present 8 (c.args.start ≡ None) (λ p. start_section.text p c.args.start) c.args.out.now c.put_section.new.out c.write_u32.new.out
    (subst (λ s. start_section.text c.write_u32.new.out s) (sym c.in-Some.is)
    (mapped u32 (λ x. Some x) c.write_u32.new.out c.in-Some.index
    (alone (λ b. u32.text b c.in-Some.index) c.write_u32.new.out (subst (λ (start : List ℕ). Appends u32 start c.write_u32.new.out c.in-Some.index) c.new-payload.ensures c.in_ok-write_u32.ensures)))))
