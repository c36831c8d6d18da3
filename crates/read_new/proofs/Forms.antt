-- The forms of the grammar are exact.
use Rattle.std.proofs.Common.{ℕ}
use Rattle.grammar_kit.specs.Exact.{Exact}
use Rattle.grammar_kit.proofs.Combinators.{exact_rules, exact_vector}
use Rattle.grammar_kit.proofs.Sequences.{exact_sized}
use Rattle.wasm_frame.proofs.Spelling.{exact_u32, exact_u64}
use Rattle.wasm_frame.proofs.Text.{exact_name, exact_byte_vector}
use Rattle.code_new.proofs.TypeForms.{exact_ref_type_at, exact_ref_type, exact_value_type}
use Rattle.code_new.proofs.CodeForms.{exact_expr}
use Rattle.read_new.specs.Types.{func_type, from_min, from_min_to_max, limits, mutability, tag}
use Rattle.read_new.specs.Segments.{mode, index, items_type, entries, element, segment}
use Rattle.read_new.specs.Parts.{imported_table, imported_global, import_desc, import, table, global, export_desc, export, type_section, import_section, func_section, table_section, memory_section, tag_section, global_section, export_section, start_section, element_section, data_count_section, data_section}
use Rattle.read_new.specs.Bodies.{local_group, body_with, body}
use Rattle.read_new.specs.Made.{body_section}

pub exact_func_type : Exact func_type
unfolding func_type
exact_func_type = search (exact_rules, exact_u32, exact_value_type) depth 12

exact_from_min : (wide : _) → Exact (from_min wide)
unfolding from_min
exact_from_min wide = search (exact_rules, exact_u64) depth 12

exact_from_min_to_max : (wide : _) → Exact (from_min_to_max wide)
unfolding from_min_to_max
exact_from_min_to_max wide = search (exact_rules, exact_u64) depth 12

pub exact_limits : Exact limits
unfolding limits
exact_limits = search (exact_rules, exact_from_min, exact_from_min_to_max) depth 12

pub exact_mutability : Exact mutability
unfolding mutability
exact_mutability = search exact_rules depth 12

pub exact_tag : Exact tag
unfolding tag
exact_tag = search (exact_rules, exact_u32) depth 12

exact_mode : (flag : ℕ) → Exact (mode flag)
unfolding mode
exact_mode flag = search (exact_rules, exact_u32, exact_expr) depth 12

pub exact_index : Exact index
unfolding index
exact_index = search (exact_rules, exact_u32) depth 12

exact_items_type : (flag : ℕ) → Exact (items_type flag)
unfolding items_type
exact_items_type flag = search (exact_rules, exact_ref_type) depth 12

exact_entries : (flag : ℕ) → Exact (entries flag)
unfolding entries
exact_entries flag = search (exact_rules, exact_u32, exact_index, exact_expr) depth 12

pub exact_element : Exact element
unfolding element
exact_element = search (exact_rules, exact_u32, exact_mode, exact_items_type, exact_entries) depth 12

pub exact_segment : Exact segment
unfolding segment
exact_segment = search (exact_rules, exact_u32, exact_mode, exact_byte_vector) depth 12

exact_imported_table : Exact imported_table
unfolding imported_table
exact_imported_table = search (exact_rules, exact_ref_type, exact_limits) depth 12

exact_imported_global : Exact imported_global
unfolding imported_global
exact_imported_global = search (exact_rules, exact_value_type, exact_mutability) depth 12

exact_import_desc : Exact import_desc
unfolding import_desc
exact_import_desc = search (exact_rules, exact_u32, exact_imported_table, exact_limits, exact_imported_global, exact_tag) depth 12

pub exact_import : Exact import
unfolding import
exact_import = search (exact_rules, exact_name, exact_import_desc) depth 12

pub exact_table : Exact table
unfolding table
exact_table = search (exact_rules, exact_ref_type, exact_ref_type_at, exact_limits, exact_expr) depth 16

pub exact_global : Exact global
unfolding global
exact_global = search (exact_rules, exact_value_type, exact_mutability, exact_expr) depth 12

exact_export_desc : Exact export_desc
unfolding export_desc
exact_export_desc = search (exact_rules, exact_u32) depth 12

pub exact_export : Exact export
unfolding export
exact_export = search (exact_rules, exact_name, exact_export_desc) depth 12

exact_local_group : Exact local_group
unfolding local_group
exact_local_group = search (exact_rules, exact_u32, exact_value_type) depth 12

exact_body_with : (groups : _) → Exact (body_with groups)
unfolding body_with
exact_body_with groups = search (exact_rules, exact_expr) depth 12

pub exact_body : Exact body
unfolding body
exact_body = search (exact_rules, exact_u32, exact_local_group, exact_body_with) depth 12

pub exact_type_section : Exact type_section
exact_type_section = exact_vector _ _ exact_u32 exact_func_type

pub exact_import_section : Exact import_section
exact_import_section = exact_vector _ _ exact_u32 exact_import

pub exact_func_section : Exact func_section
exact_func_section = exact_vector _ _ exact_u32 exact_u32

pub exact_table_section : Exact table_section
exact_table_section = exact_vector _ _ exact_u32 exact_table

pub exact_memory_section : Exact memory_section
exact_memory_section = exact_vector _ _ exact_u32 exact_limits

pub exact_tag_section : Exact tag_section
exact_tag_section = exact_vector _ _ exact_u32 exact_tag

pub exact_global_section : Exact global_section
exact_global_section = exact_vector _ _ exact_u32 exact_global

pub exact_export_section : Exact export_section
exact_export_section = exact_vector _ _ exact_u32 exact_export

pub exact_start_section : Exact start_section
exact_start_section = search (exact_rules, exact_u32) depth 12

pub exact_element_section : Exact element_section
exact_element_section = exact_vector _ _ exact_u32 exact_element

pub exact_data_count_section : Exact data_count_section
exact_data_count_section = search (exact_rules, exact_u32) depth 12

pub exact_data_section : Exact data_section
exact_data_section = exact_vector _ _ exact_u32 exact_segment

pub exact_body_section : Exact body_section
exact_body_section = exact_vector _ _ exact_u32 (exact_sized _ _ exact_u32 exact_body)
