use Rattle.std.proofs.Common.{ℕ, List, [], ◌++◌, ap, sym, subst, ◌∙◌}
use Rattle.std.specs.Prelude.{All}
use Rattle.wasm_frame.specs.Frame.{head}
use Rattle.core1_bytes.specs.Parts.{type_section, import_section, func_section, table_section, memory_section, global_section, export_section, element_section, data_section}
use Rattle.core1_bytes.specs.Made.{body_section}
use Rattle.core1_bytes.specs.Appends.{IsWrittenBody}
use Rattle.core1_bytes.proofs.Typings.{codes_written, counts_agree}
use Rattle.core1_bytes.proofs.Whole.{Entries, module_spelled}
use Rattle.core1_bytes.proofs.writing.sections.write1.Goals as goal

pub write_section-requires-9 : goal.write_section-requires-9
write_section-requires-9 c = subst (λ bodies. All IsWrittenBody bodies) (sym c.as_slice-9.ensures) (codes_written c.args.source.now c.requires)

pub returns : goal.returns
returns c =
    module_spelled c.extend_from_slice.new.self c.write_section.new.out c.write_section-2.new.out c.write_section-3.new.out c.write_section-4.new.out c.write_section-5.new.out c.write_section-6.new.out c.write_section-7.new.out c.write_start.new.out c.write_section-8.new.out c.write_section-9.new.out c.write_section-10.new.out c.args.source.now
    (c.in_ok-extend_from_slice.ensures.ok ∙ ap (λ (start : List ℕ). start ++ head) c.new-out.ensures)
    (subst (λ xs. Entries 1 type_section [] xs c.extend_from_slice.new.self c.write_section.new.out) c.as_slice.ensures c.in_ok-write_section.ensures)
    (subst (λ xs. Entries 2 import_section [] xs c.write_section.new.out c.write_section-2.new.out) c.as_slice-2.ensures c.in_ok-write_section-2.ensures)
    (subst (λ xs. Entries 3 func_section [] xs c.write_section-2.new.out c.write_section-3.new.out) c.as_slice-3.ensures c.in_ok-write_section-3.ensures)
    (subst (λ xs. Entries 4 table_section [] xs c.write_section-3.new.out c.write_section-4.new.out) c.as_slice-4.ensures c.in_ok-write_section-4.ensures)
    (subst (λ xs. Entries 5 memory_section [] xs c.write_section-4.new.out c.write_section-5.new.out) c.as_slice-5.ensures c.in_ok-write_section-5.ensures)
    (subst (λ xs. Entries 6 global_section [] xs c.write_section-5.new.out c.write_section-6.new.out) c.as_slice-6.ensures c.in_ok-write_section-6.ensures)
    (subst (λ xs. Entries 7 export_section [] xs c.write_section-6.new.out c.write_section-7.new.out) c.as_slice-7.ensures c.in_ok-write_section-7.ensures)
    c.in_ok-write_start.ensures
    (subst (λ xs. Entries 9 element_section [] xs c.write_start.new.out c.write_section-8.new.out) c.as_slice-8.ensures c.in_ok-write_section-8.ensures)
    (subst (λ xs. Entries 10 body_section [] xs c.write_section-8.new.out c.write_section-9.new.out) c.as_slice-9.ensures c.in_ok-write_section-9.ensures)
    (subst (λ xs. Entries 11 data_section [] xs c.write_section-9.new.out c.write_section-10.new.out) c.as_slice-10.ensures c.in_ok-write_section-10.ensures)
    (counts_agree c.args.source.now c.requires)
