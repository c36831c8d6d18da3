-- The forms of instructions, tokens and expressions are exact.
use Rattle.std.proofs.Common.{◌≡◌, ℕ, Option, Some, None, [], refl}
use Rattle.lane_core.specs.declared.operators.named.LaneOp.{LaneOp}
use Rattle.lane_core.specs.declared.operators.named.LaneOp.TheVariants.{Load, Store, LoadLane, StoreLane, Const, Shuffle, Splat, Extract, Replace, Bitselect, One, Two, Shift, Test}
use Rattle.grammar_kit.specs.Exact.{Exact}
use Rattle.grammar_kit.proofs.Combinators.{exact_rules}
use Rattle.wasm_frame.proofs.Spelling.{exact_numbers}
use Rattle.nested_code.proofs.Exactness as nested
use Rattle.code_new.specs.Instructions.{br_table, select_typed, access, constant, reference, saturating_or_bulk, behind_fc}
use Rattle.code_new.specs.Vectors.{lane_instr, float_lanes, named_or_float, behind_fd}
use Rattle.code_new.specs.Tokens.{control_at, instr_at, opened, try_table, head_at, token_at, token, has_arms, build}
use Rattle.code_new.specs.Code.{expr}
use Rattle.code_new.proofs.TypeForms.{exact_heap_type, exact_value_type, exact_block_type, exact_mem_arg, exact_clause}

exact_br_table : Exact br_table
unfolding br_table
exact_br_table = search (exact_rules, exact_numbers) depth 12

exact_select_typed : Exact select_typed
unfolding select_typed
exact_select_typed = search (exact_rules, exact_numbers, exact_value_type) depth 12

exact_access : (b : ℕ) → Exact (access b)
unfolding access
exact_access b = search (exact_rules, exact_mem_arg) depth 12

exact_constant : (b : ℕ) → Exact (constant b)
unfolding constant
exact_constant b = search (exact_rules, exact_numbers) depth 16

exact_reference : (b : ℕ) → Exact (reference b)
unfolding reference
exact_reference b = search (exact_rules, exact_numbers, exact_heap_type) depth 16

exact_saturating_or_bulk : (n : ℕ) → Exact (saturating_or_bulk n)
unfolding saturating_or_bulk
exact_saturating_or_bulk n = search (exact_rules, exact_numbers) depth 16

exact_behind_fc : Exact behind_fc
unfolding behind_fc
exact_behind_fc = search (exact_rules, exact_numbers, exact_saturating_or_bulk) depth 12

exact_lane_instr : (op : LaneOp) → Exact (lane_instr op)
unfolding lane_instr
exact_lane_instr (Load op) = search (exact_rules, exact_mem_arg) depth 12
exact_lane_instr Store = search (exact_rules, exact_mem_arg) depth 12
exact_lane_instr (LoadLane shape) = search (exact_rules, exact_mem_arg) depth 12
exact_lane_instr (StoreLane shape) = search (exact_rules, exact_mem_arg) depth 12
exact_lane_instr Const = search exact_rules depth 12
exact_lane_instr Shuffle = search exact_rules depth 12
exact_lane_instr (Splat shape) = search exact_rules depth 12
exact_lane_instr (Extract op) = search exact_rules depth 12
exact_lane_instr (Replace shape) = search exact_rules depth 12
exact_lane_instr Bitselect = search exact_rules depth 12
exact_lane_instr (One op) = search exact_rules depth 12
exact_lane_instr (Two op) = search exact_rules depth 12
exact_lane_instr (Shift op) = search exact_rules depth 12
exact_lane_instr (Test op) = search exact_rules depth 12

exact_float_lanes : (n : ℕ) → Exact (float_lanes n)
unfolding float_lanes
exact_float_lanes n = search exact_rules depth 12

exact_named_or_float : (o : Option LaneOp) (n : ℕ) → Exact (named_or_float o n)
exact_named_or_float (Some op) n = exact_lane_instr op
exact_named_or_float None n = exact_float_lanes n

exact_behind_fd : Exact behind_fd
unfolding behind_fd
exact_behind_fd = search (exact_rules, exact_numbers, exact_named_or_float) depth 12

exact_control_at : (b : ℕ) → Exact (control_at b)
unfolding control_at
exact_control_at b = search (exact_rules, exact_numbers, exact_br_table, exact_select_typed) depth 16

exact_instr_at : (b : ℕ) → Exact (instr_at b)
unfolding instr_at
exact_instr_at b = search (exact_rules, exact_numbers, exact_access, exact_constant, exact_behind_fc, exact_behind_fd, exact_reference) depth 24

exact_opened : (b : ℕ) → Exact (opened b)
unfolding opened
exact_opened b = search (exact_rules, exact_block_type) depth 12

exact_try_table : Exact try_table
unfolding try_table
exact_try_table = search (exact_rules, exact_numbers, exact_block_type, exact_clause) depth 12

exact_head_at : (b : ℕ) → Exact (head_at b)
unfolding head_at
exact_head_at b = search (exact_rules, exact_opened, exact_try_table, exact_control_at) depth 24

exact_token_at : (b : ℕ) → Exact (token_at b)
unfolding token_at
exact_token_at b = search (exact_rules, exact_head_at, exact_instr_at) depth 12

pub exact_token : Exact token
unfolding token
exact_token = search (exact_rules, exact_token_at) depth 12

-- a token takes a byte at least
pub token_takes : token.read [] ≡ None
unfolding token
token_takes = refl

pub exact_expr : Exact expr
unfolding expr
exact_expr = nested.exact_expr token has_arms build exact_token token_takes

-- and so does an expression
pub expr_takes : expr.read [] ≡ None
unfolding expr
expr_takes = nested.expr_takes token has_arms build exact_token token_takes
