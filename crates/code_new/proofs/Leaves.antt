-- The instructions that hold no code have depth 0, and name a data segment where they do so by themselves.
use Rattle.std.proofs.Common.{◌≡◌, ℕ, [], ◌||◌, Option, Some, None, refl, ap, ◌∙◌}
use Rattle.std.proofs.Math.Bool.{or-false}
use Rattle.std.specs.Prelude.{IfSome, option_map}
use Rattle.lane_core.specs.declared.operators.named.LaneOp.{LaneOp}
use Rattle.lane_core.specs.declared.operators.named.LaneOp.TheVariants.{Load, Store, LoadLane, StoreLane, Const, Shuffle, Splat, Extract, Replace, Bitselect, One, Two, Shift, Test}
use Rattle.wasm_ast.specs.declared.module.immediates.MemArg.{MemArg}
use Rattle.wasm_ast.specs.declared.module.ty.BlockType.{BlockType}
use Rattle.wasm_ast.specs.declared.module.op.Op.{Op}
use Rattle.wasm_ast.specs.declared.module.code.Instr.{Instr, out-Instr}
use Rattle.wasm_ast.specs.declared.module.code.Instr.TheVariants as instrs
use Rattle.wasm_ast.specs.declared.module.code.Instr.TheFolds.{map-Instr, fold_out-Instr}
use Rattle.wasm_ast.specs.Occurrence.{inside, some, some_in}
use Rattle.wasm_ast.proofs.Bodies.{some-out}
use Rattle.nested_code.specs.declared.token.Token.{Token}
use Rattle.nested_code.specs.declared.token.Token.TheVariants.{Open}
use Rattle.nested_code.proofs.Leaves.{Only, only_always, only_when, only_rules, if_mapped, if_rules, IsLeaf, only_plain}
use Rattle.code_new.specs.declared.head.Head.{Head}
use Rattle.code_new.specs.Instructions.{plain_of, float_operator, numeric_of, jump_of, variable_of, bulk_of, indirect_of, transfer_of, br_table, select_typed, access_of, access, size_of, constant, reference, saturating_or_bulk, behind_fc}
use Rattle.code_new.specs.Vectors.{lane_instr, float_lanes, named_or_float, behind_fd}
use Rattle.code_new.specs.Tokens.{control_at, instr_at, head_of, opened, try_table, head_at, token_at, token}
use Rattle.code_new.specs.Code.{depth, depth_step, is_data_use, uses_data}

-- ---- instructions that hold no code

pub record IsFlat (i : Instr) : Type 0 where
  pub depth : depth i ≡ 0
  pub uses : some is_data_use i ≡ uses_data i

leaf : (i : Instr) → depth_step (map-Instr Instr ℕ depth (out-Instr i)) ≡ 0 → inside (out-Instr i) ≡ [] → IsFlat i
unfolding depth
leaf i e none = record {
  depth = fold_out-Instr ℕ depth_step i ∙ e;
  uses = some-out is_data_use i ∙ ap (λ code. uses_data i || some_in is_data_use code) none ∙ or-false (uses_data i);
}

jump_leaf : (b x : ℕ) → IfSome (jump_of b x) IsFlat
unfolding jump_of out-Instr denote.Hole.Carrier.out
jump_leaf b x = search (if_rules, leaf) depth 24

plain_leaf : (b : ℕ) → IfSome (plain_of b) IsFlat
unfolding plain_of out-Instr denote.Hole.Carrier.out
plain_leaf b = search (if_rules, leaf) depth 24

float_operator_leaf : (b : ℕ) → IfSome (float_operator b) IsFlat
unfolding float_operator out-Instr denote.Hole.Carrier.out
float_operator_leaf b = search (if_rules, leaf) depth 24

pub local_leaf : (x : ℕ) → IsFlat (instrs.LocalGet x)
unfolding out-Instr denote.Hole.Carrier.out
local_leaf x = leaf (instrs.LocalGet x) refl refl

pub pure_leaf : (op : Op) → IsFlat (instrs.Pure op)
unfolding out-Instr denote.Hole.Carrier.out
pure_leaf op = leaf (instrs.Pure op) refl refl

numeric_leaf : (b : ℕ) → IfSome (numeric_of b) IsFlat
unfolding numeric_of
numeric_leaf b = search (if_rules, pure_leaf, float_operator_leaf) depth 24

variable_leaf : (b x : ℕ) → IfSome (variable_of b x) IsFlat
unfolding variable_of out-Instr denote.Hole.Carrier.out
variable_leaf b x = search (if_rules, leaf) depth 24

bulk_leaf : (n x : ℕ) → IfSome (bulk_of n x) IsFlat
unfolding bulk_of out-Instr denote.Hole.Carrier.out
bulk_leaf n x = search (if_rules, leaf) depth 24

indirect_leaf : (b x y : ℕ) → IfSome (indirect_of b x y) IsFlat
unfolding indirect_of out-Instr denote.Hole.Carrier.out
indirect_leaf b x y = search (if_rules, leaf) depth 24

transfer_leaf : (n x y : ℕ) → IfSome (transfer_of n x y) IsFlat
unfolding transfer_of out-Instr denote.Hole.Carrier.out
transfer_leaf n x y = search (if_rules, leaf) depth 24

size_leaf : (b x : ℕ) → IfSome (size_of b x) IsFlat
unfolding size_of out-Instr denote.Hole.Carrier.out
size_leaf b x = search (if_rules, leaf) depth 24

access_leaf : (b : ℕ) (at : MemArg) → IfSome (access_of b at) IsFlat
unfolding access_of out-Instr denote.Hole.Carrier.out
access_leaf b at = search (if_rules, leaf) depth 24

only_br_table : Only br_table IsFlat
unfolding br_table out-Instr denote.Hole.Carrier.out
only_br_table = search (only_rules, leaf) depth 12

only_select_typed : Only select_typed IsFlat
unfolding select_typed out-Instr denote.Hole.Carrier.out
only_select_typed = search (only_rules, leaf) depth 12

only_access : (b : ℕ) → Only (access b) IsFlat
unfolding access
only_access b = search (only_rules, access_leaf) depth 12

only_constant : (b : ℕ) → Only (constant b) IsFlat
unfolding constant out-Instr denote.Hole.Carrier.out
only_constant b = search (only_rules, leaf) depth 16

only_reference : (b : ℕ) → Only (reference b) IsFlat
unfolding reference out-Instr denote.Hole.Carrier.out
only_reference b = search (only_rules, leaf) depth 16

only_saturating_or_bulk : (n : ℕ) → Only (saturating_or_bulk n) IsFlat
unfolding saturating_or_bulk out-Instr denote.Hole.Carrier.out
only_saturating_or_bulk n = search (only_rules, leaf, transfer_leaf, bulk_leaf) depth 16

only_behind_fc : Only behind_fc IsFlat
unfolding behind_fc
only_behind_fc = search (only_rules, only_saturating_or_bulk) depth 12

only_lane_instr : (op : LaneOp) → Only (lane_instr op) IsFlat
unfolding lane_instr out-Instr denote.Hole.Carrier.out
only_lane_instr (Load op) = search (only_rules, leaf) depth 12
only_lane_instr Store = search (only_rules, leaf) depth 12
only_lane_instr (LoadLane shape) = search (only_rules, leaf) depth 12
only_lane_instr (StoreLane shape) = search (only_rules, leaf) depth 12
only_lane_instr Const = search (only_rules, leaf) depth 12
only_lane_instr Shuffle = search (only_rules, leaf) depth 12
only_lane_instr (Splat shape) = search (only_rules, leaf) depth 12
only_lane_instr (Extract op) = search (only_rules, leaf) depth 12
only_lane_instr (Replace shape) = search (only_rules, leaf) depth 12
only_lane_instr Bitselect = search (only_rules, leaf) depth 12
only_lane_instr (One op) = search (only_rules, leaf) depth 12
only_lane_instr (Two op) = search (only_rules, leaf) depth 12
only_lane_instr (Shift op) = search (only_rules, leaf) depth 12
only_lane_instr (Test op) = search (only_rules, leaf) depth 12

only_float_lanes : (n : ℕ) → Only (float_lanes n) IsFlat
unfolding float_lanes out-Instr denote.Hole.Carrier.out
only_float_lanes n = search (only_rules, leaf) depth 12

only_named_or_float : (o : Option LaneOp) (n : ℕ) → Only (named_or_float o n) IsFlat
only_named_or_float (Some op) n = only_lane_instr op
only_named_or_float None n = only_float_lanes n

only_behind_fd : Only behind_fd IsFlat
unfolding behind_fd
only_behind_fd = search (only_rules, only_named_or_float) depth 12

only_control_at : (b : ℕ) → Only (control_at b) IsFlat
unfolding control_at
only_control_at b = search (only_rules, plain_leaf, jump_leaf, indirect_leaf, only_br_table, only_select_typed) depth 24

only_instr_at : (b : ℕ) → Only (instr_at b) IsFlat
unfolding instr_at
only_instr_at b = search (only_rules, variable_leaf, only_access, size_leaf, only_constant, numeric_leaf, only_behind_fc, only_behind_fd, only_reference) depth 24

-- ---- tokens

-- what opens code is no instruction by itself
abbrev as_open : Head → Token Instr Head
as_open h = Open h

opened_leaf : (b : ℕ) (t : BlockType) → IfSome (option_map as_open (head_of b t)) (IsLeaf IsFlat)
opened_leaf b t = if_mapped as_open (head_of b t) (IsLeaf IsFlat) (λ h. tt)

only_opened : (b : ℕ) → Only (opened b) (IsLeaf IsFlat)
unfolding opened
only_opened b = search (only_rules, opened_leaf) depth 12

only_try_table : Only try_table (IsLeaf IsFlat)
unfolding try_table
only_try_table = search only_rules depth 12

only_head_at : (b : ℕ) → Only (head_at b) (IsLeaf IsFlat)
unfolding head_at
only_head_at b = search (only_plain, only_control_at, only_opened, only_try_table, only_when, only_always) depth 24

only_token_at : (b : ℕ) → Only (token_at b) (IsLeaf IsFlat)
unfolding token_at
only_token_at b = search (only_plain, only_instr_at, only_head_at, only_when) depth 12

pub only_token : Only token (IsLeaf IsFlat)
unfolding token
only_token = search (only_rules, only_token_at) depth 12
