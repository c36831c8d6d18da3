-- The forms of types and immediates are exact.
use Rattle.std.proofs.Common.{ℕ}
use Rattle.grammar_kit.specs.Exact.{Exact}
use Rattle.grammar_kit.proofs.Combinators.{exact_rules}
use Rattle.wasm_frame.proofs.Spelling.{exact_numbers}
use Rattle.code_new.specs.Types.{heap_type_at, heap_type, ref_type_at, ref_type, value_type_at, value_type, type_index_at, block_type_at, block_type}
use Rattle.code_new.specs.Immediates.{offset_at, mem_arg, clause}

pub exact_heap_type_at : (b : ℕ) → Exact (heap_type_at b)
unfolding heap_type_at
exact_heap_type_at b = search exact_rules depth 12

pub exact_heap_type : Exact heap_type
unfolding heap_type
exact_heap_type = search (exact_rules, exact_heap_type_at) depth 12

pub exact_ref_type_at : (b : ℕ) → Exact (ref_type_at b)
unfolding ref_type_at
exact_ref_type_at b = search (exact_rules, exact_heap_type_at, exact_heap_type) depth 12

pub exact_ref_type : Exact ref_type
unfolding ref_type
exact_ref_type = search (exact_rules, exact_ref_type_at) depth 12

pub exact_value_type_at : (b : ℕ) → Exact (value_type_at b)
unfolding value_type_at
exact_value_type_at b = search (exact_rules, exact_ref_type_at) depth 16

pub exact_value_type : Exact value_type
unfolding value_type
exact_value_type = search (exact_rules, exact_value_type_at) depth 12

exact_type_index_at : (b : ℕ) → Exact (type_index_at b)
unfolding type_index_at
exact_type_index_at b = search (exact_rules, exact_numbers) depth 12

exact_block_type_at : (b : ℕ) → Exact (block_type_at b)
unfolding block_type_at
exact_block_type_at b = search (exact_rules, exact_value_type_at, exact_type_index_at) depth 12

pub exact_block_type : Exact block_type
unfolding block_type
exact_block_type = search (exact_rules, exact_block_type_at) depth 12

-- ---- immediates

exact_offset_at : (m align : ℕ) → Exact (offset_at m align)
unfolding offset_at
exact_offset_at m align = search (exact_rules, exact_numbers) depth 12

pub exact_mem_arg : Exact mem_arg
unfolding mem_arg
exact_mem_arg = search (exact_rules, exact_numbers, exact_offset_at) depth 12

pub exact_clause : Exact clause
unfolding clause
exact_clause = search (exact_rules, exact_numbers) depth 24
