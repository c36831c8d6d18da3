use Rattle.module_reading.proofs.Sized.{sized}
use Rattle.code_new.specs.Code.{depths}
use Rattle.read_new.specs.Limits.{func_count, table_depth}
use Rattle.read_new.specs.Parts.{import_section, func_section, table_section, memory_section, global_section}
use Rattle.read_new.proofs.Forms.{exact_import_section, exact_func_section, exact_table_section, exact_memory_section, exact_global_section}
use Rattle.read_new.proofs.TypeSizes.{types_sized}
use Rattle.read_new.proofs.checking.check_before_exports.Goals as goal

pub returns-in-1 : goal.returns-in-1
returns-in-1 c = rw c.in-1.is (types_sized c.args.payload.now c.type_sizes.result c.type_sizes.ensures)

pub returns-in-2 : goal.returns-in-2
returns-in-2 c = rw c.in-2.is (sized import_section exact_import_section (λ i. func_count i.desc) c.args.payload.now c.vector_sizes.result c.vector_sizes.ensures)

pub returns-in-3 : goal.returns-in-3
returns-in-3 c = rw c.in-3.is (sized func_section exact_func_section (λ x. 0) c.args.payload.now c.vector_sizes-in-3.result c.vector_sizes-in-3.ensures)

pub returns-in-4 : goal.returns-in-4
returns-in-4 c = rw c.in-4.is (sized table_section exact_table_section table_depth c.args.payload.now c.vector_sizes-in-4.result c.vector_sizes-in-4.ensures)

pub returns-in-5 : goal.returns-in-5
returns-in-5 c = rw c.in-5.is (sized memory_section exact_memory_section (λ x. 0) c.args.payload.now c.vector_sizes-in-5.result c.vector_sizes-in-5.ensures)

pub returns-in-6 : goal.returns-in-6
returns-in-6 c = rw c.in-6.is (sized global_section exact_global_section (λ g. depths g.init) c.args.payload.now c.vector_sizes-in-6.result c.vector_sizes-in-6.ensures)
