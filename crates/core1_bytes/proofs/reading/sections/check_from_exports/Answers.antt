use Rattle.grammar_kit.specs.Measures.{greatest}
use Rattle.core1_bytes.specs.Nesting.{depth}
use Rattle.core1_bytes.specs.Parts.{export_section, element_section, data_section}
use Rattle.core1_bytes.proofs.Forms.{exact_export_section, exact_element_section, exact_data_section}
use Rattle.core1_bytes.proofs.Payloads.{vector_checked, number_checked}
use Rattle.core1_bytes.proofs.reading.sections.check_from_exports.Goals as goal

pub returns-in-7 : goal.returns-in-7
returns-in-7 c = rw c.in-7.is (vector_checked export_section exact_export_section (λ x. 0) c.args.payload.now c.vector_sizes.result c.vector_sizes.ensures)

pub returns-in-8 : goal.returns-in-8
returns-in-8 c = rw c.in-8.is (number_checked c.args.payload.now c.number_sizes.result c.number_sizes.ensures)

pub returns-in-9 : goal.returns-in-9
returns-in-9 c = rw c.in-9.is (vector_checked element_section exact_element_section (λ e. greatest depth e.offset) c.args.payload.now c.vector_sizes-in-9.result c.vector_sizes-in-9.ensures)

pub returns-in-11 : goal.returns-in-11
returns-in-11 c = rw c.in-11.is (vector_checked data_section exact_data_section (λ d. greatest depth d.offset) c.args.payload.now c.vector_sizes-in-11.result c.vector_sizes-in-11.ensures)
