use Rattle.std.proofs.Common.{◌≡◌, length, arith}
use Rattle.grammar_kit.specs.Measures.{greatest}
use Rattle.core1_bytes.specs.Limits.{func_count}
use Rattle.core1_bytes.specs.Nesting.{depth}
use Rattle.core1_bytes.specs.Parts.{type_section, import_section, func_section, table_section, memory_section, global_section}
use Rattle.core1_bytes.proofs.Forms.{exact_type_section, exact_import_section, exact_func_section, exact_table_section, exact_memory_section, exact_global_section}
use Rattle.core1_bytes.proofs.Payloads.{vector_checked}
use Rattle.core1_bytes.proofs.reading.sections.check_up_to_globals.Goals as goal

pub returns-in-1 : goal.returns-in-1
returns-in-1 c = rw c.in-1.is (vector_checked type_section exact_type_section (λ t. length t.params) c.args.payload.now c.vector_sizes.result c.vector_sizes.ensures)

pub returns-in-2 : goal.returns-in-2
returns-in-2 c = rw c.in-2.is (vector_checked import_section exact_import_section (λ i. func_count i.desc) c.args.payload.now c.vector_sizes-in-2.result c.vector_sizes-in-2.ensures)

pub returns-in-3 : goal.returns-in-3
returns-in-3 c = rw c.in-3.is (vector_checked func_section exact_func_section (λ x. 0) c.args.payload.now c.vector_sizes-in-3.result c.vector_sizes-in-3.ensures)

pub returns-in-4 : goal.returns-in-4
returns-in-4 c = rw c.in-4.is (vector_checked table_section exact_table_section (λ l. 0) c.args.payload.now c.vector_sizes-in-4.result c.vector_sizes-in-4.ensures)

pub returns-in-5 : goal.returns-in-5
returns-in-5 c = rw c.in-5.is (vector_checked memory_section exact_memory_section (λ l. 0) c.args.payload.now c.vector_sizes-in-5.result c.vector_sizes-in-5.ensures)

pub returns-in_default : goal.returns-in_default
returns-in_default c =
    let six : c.args.id ≡ 6 = omega arith in
    rw six (vector_checked global_section exact_global_section (λ g. greatest depth g.init) c.args.payload.now c.vector_sizes-in_default.result c.vector_sizes-in_default.ensures)
