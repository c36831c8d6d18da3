-- The forms of the grammar are exact.
use Rattle.std.proofs.Common.{◌≡◌, ℕ, List, [], None, refl}
use Rattle.grammar_kit.specs.Exact.{Exact}
use Rattle.grammar_kit.proofs.Combinators.{exact_rules, exact_vector}
use Rattle.wasm_frame.proofs.Spelling.{exact_u32, exact_s32, exact_s64}
use Rattle.wasm_frame.proofs.Text.{exact_name, exact_byte_vector}
use Rattle.nested_code.proofs.Exactness as nesting
use Rattle.core1_bytes.specs.declared.body.LocalGroup1.{LocalGroup1}
use Rattle.core1_bytes.specs.Types.{value_type, block_type, func_type, limits, table_type, mutability, global_type}
use Rattle.core1_bytes.specs.Instructions.{br_table, indirect, size, mem_arg, access, constant, control, instr_at}
use Rattle.core1_bytes.specs.Tokens.{opened, control_at, token, has_arms, build}
use Rattle.core1_bytes.specs.Bodies.{expr, local_group, body_with, body}
use Rattle.core1_bytes.specs.Parts.{import_desc, import, global, export_desc, export, element, segment, type_section, import_section, func_section, table_section, memory_section, global_section, export_section, start_section, element_section, data_section}

pub exact_value_type : Exact value_type
unfolding value_type
exact_value_type = search (exact_rules) depth 12

pub exact_block_type : Exact block_type
unfolding block_type
exact_block_type = search (exact_rules) depth 12

pub exact_func_type : Exact func_type
unfolding func_type
exact_func_type = search (exact_rules, exact_u32, exact_value_type) depth 12

pub exact_limits : Exact limits
unfolding limits
exact_limits = search (exact_rules, exact_u32) depth 12

pub exact_table_type : Exact table_type
unfolding table_type
exact_table_type = search (exact_rules, exact_limits) depth 12

pub exact_mutability : Exact mutability
unfolding mutability
exact_mutability = search exact_rules depth 12

pub exact_global_type : Exact global_type
unfolding global_type
exact_global_type = search (exact_rules, exact_value_type, exact_mutability) depth 12

exact_br_table : Exact br_table
unfolding br_table
exact_br_table = search (exact_rules, exact_u32) depth 12

exact_indirect : Exact indirect
unfolding indirect
exact_indirect = search (exact_rules, exact_u32) depth 12

exact_size : (k : ℕ) → Exact (size k)
unfolding size
exact_size k = search exact_rules depth 12

pub exact_mem_arg : Exact mem_arg
unfolding mem_arg
exact_mem_arg = search (exact_rules, exact_u32) depth 12

exact_access : (k : ℕ) → Exact (access k)
unfolding access
exact_access k = search (exact_rules, exact_mem_arg) depth 12

exact_constant : (k : ℕ) → Exact (constant k)
unfolding constant
exact_constant k = search (exact_rules, exact_s32, exact_s64) depth 16

exact_control : (k : ℕ) → Exact (control k)
unfolding control
exact_control k = search (exact_rules, exact_u32, exact_br_table, exact_indirect) depth 16

exact_instr_at : (k : ℕ) → Exact (instr_at k)
unfolding instr_at
exact_instr_at k = search (exact_rules, exact_u32, exact_access, exact_size, exact_constant) depth 16

exact_opened : (k : ℕ) → Exact (opened k)
unfolding opened
exact_opened k = search (exact_rules, exact_block_type) depth 12

exact_control_at : (k : ℕ) → Exact (control_at k)
unfolding control_at
exact_control_at k = search (exact_rules, exact_opened, exact_control) depth 16

pub exact_token : Exact token
unfolding token
exact_token = search (exact_rules, exact_control_at, exact_instr_at) depth 12

-- no token is spelled by no bytes
pub token_takes : token.read [] ≡ None
unfolding token
token_takes = refl

pub exact_expr : Exact expr
unfolding expr
exact_expr = nesting.exact_expr token has_arms build exact_token token_takes

pub exact_local_group : Exact local_group
unfolding local_group
exact_local_group = search (exact_rules, exact_u32, exact_value_type) depth 12

pub exact_body_with : (groups : List LocalGroup1) → Exact (body_with groups)
unfolding body_with
exact_body_with groups = search (exact_rules, exact_expr) depth 12

pub exact_body : Exact body
unfolding body
exact_body = search (exact_rules, exact_u32, exact_local_group, exact_body_with) depth 12

pub exact_import_desc : Exact import_desc
unfolding import_desc
exact_import_desc = search (exact_rules, exact_u32, exact_table_type, exact_limits, exact_global_type) depth 12

pub exact_import : Exact import
unfolding import
exact_import = search (exact_rules, exact_name, exact_import_desc) depth 12

pub exact_global : Exact global
unfolding global
exact_global = search (exact_rules, exact_global_type, exact_expr) depth 12

pub exact_export_desc : Exact export_desc
unfolding export_desc
exact_export_desc = search (exact_rules, exact_u32) depth 12

pub exact_export : Exact export
unfolding export
exact_export = search (exact_rules, exact_name, exact_export_desc) depth 12

pub exact_element : Exact element
unfolding element
exact_element = search (exact_rules, exact_u32, exact_expr) depth 12

pub exact_segment : Exact segment
unfolding segment
exact_segment = search (exact_rules, exact_u32, exact_expr, exact_byte_vector) depth 12

pub exact_type_section : Exact type_section
exact_type_section = exact_vector _ _ exact_u32 exact_func_type

pub exact_import_section : Exact import_section
exact_import_section = exact_vector _ _ exact_u32 exact_import

pub exact_func_section : Exact func_section
exact_func_section = exact_vector _ _ exact_u32 exact_u32

pub exact_table_section : Exact table_section
exact_table_section = exact_vector _ _ exact_u32 exact_table_type

pub exact_memory_section : Exact memory_section
exact_memory_section = exact_vector _ _ exact_u32 exact_limits

pub exact_global_section : Exact global_section
exact_global_section = exact_vector _ _ exact_u32 exact_global

pub exact_export_section : Exact export_section
exact_export_section = exact_vector _ _ exact_u32 exact_export

pub exact_start_section : Exact start_section
exact_start_section = search (exact_rules, exact_u32) depth 12

pub exact_element_section : Exact element_section
exact_element_section = exact_vector _ _ exact_u32 exact_element

pub exact_data_section : Exact data_section
exact_data_section = exact_vector _ _ exact_u32 exact_segment
