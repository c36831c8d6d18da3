-- The program's tables hold what the rows say.
use Rattle.std.proofs.Common.{◌≡◌, ℕ, ◌+◌, ◌-◌, ◌<◌, ◌≤◌, ◌⊎◌, get_or, Option, Some, None, refl, sym, ◌∙◌}
use Rattle.num_core.specs.declared.operators.Width.{Width}
use Rattle.num_core.specs.declared.operators.Width.TheVariants.{W32, W64}
use Rattle.num_core.specs.declared.operators.Cmp.{Cmp}
use Rattle.num_core.specs.declared.operators.Cmp.TheVariants.{Eq}
use Rattle.num_core.specs.declared.operators.Un.{Un}
use Rattle.num_core.specs.declared.operators.Un.TheVariants.{Clz}
use Rattle.num_core.specs.declared.operators.Bin.{Bin}
use Rattle.num_core.specs.declared.operators.Bin.TheVariants.{Add}
use Rattle.num_core.specs.declared.operators.Conv.{Conv}
use Rattle.num_core.specs.declared.operators.Conv.TheVariants.{Wrap}
use Rattle.num_core.specs.declared.operators.Load.{Load}
use Rattle.num_core.specs.declared.operators.Load.TheVariants as loads
use Rattle.num_core.specs.declared.operators.Store.{Store}
use Rattle.num_core.specs.declared.operators.Store.TheVariants as stores
use Rattle.num_core.specs.contracts.operators.Width as width
use Rattle.num_core.specs.contracts.operators.Cmp as cmp
use Rattle.num_core.specs.contracts.operators.Un as un
use Rattle.num_core.specs.contracts.operators.Bin as bin
use Rattle.num_core.specs.contracts.operators.Conv as conv
use Rattle.num_core.specs.contracts.operators.Load as load
use Rattle.num_core.specs.contracts.operators.Store as store
use Rattle.opcode_table.specs.declared.int_op.IntOp.{IntOp}
use Rattle.opcode_table.specs.declared.int_op.IntOp.TheVariants.{Eqz, Compare, Unary, Binary, Convert}
use Rattle.opcode_table.specs.declared.operators.TheConstants.{OPERATORS}
use Rattle.opcode_table.specs.declared.opcodes.TheConstants.{TESTS, COMPARISONS, UNARIES, BINARIES, CONVERSIONS}
use Rattle.opcode_table.specs.declared.accesses.TheConstants.{LOADS, LOAD_OPCODES, STORES, STORE_OPCODES}
use Rattle.opcode_table.specs.Operators.{operators_32, operators_64, conversions, rows, operator_of}
use Rattle.opcode_table.specs.Accesses.{load_rows, load_of, store_rows, store_of}
use Rattle.opcode_table.proofs.Rows.{row_within, none_outside, code_alone, table_at}
use denote.Enum.Declared.{tag_of}

-- ---- operators

-- the opcode that the program's tables give
abbrev pub test_opcode : Width → ℕ
test_opcode w = get_or TESTS (tag_of width.the_type w) 0

abbrev pub comparison_opcode : Width → Cmp → ℕ
comparison_opcode w op = get_or COMPARISONS (tag_of width.the_type w) 0 + tag_of cmp.the_type op

abbrev pub unary_opcode : Width → Un → ℕ
unary_opcode w op = get_or UNARIES (tag_of width.the_type w) 0 + tag_of un.the_type op

abbrev pub binary_opcode : Width → Bin → ℕ
binary_opcode w op = get_or BINARIES (tag_of width.the_type w) 0 + tag_of bin.the_type op

abbrev pub conversion_opcode : Conv → ℕ
conversion_opcode op = get_or CONVERSIONS (tag_of conv.the_type op) 0

-- has a row with the operator
pub test_row : (w : Width) → operator_of (test_opcode w) ≡ Some (Eqz w)
unfolding operator_of rows operators_32 operators_64 conversions
test_row W32 = refl
test_row W64 = refl

pub comparison_row : (w : Width) (op : Cmp) → operator_of (comparison_opcode w op) ≡ Some (Compare w op)
unfolding operator_of rows operators_32 operators_64 conversions
comparison_row W32 Eq = refl
comparison_row W32 _ = refl
comparison_row W64 Eq = refl
comparison_row W64 _ = refl

pub unary_row : (w : Width) (op : Un) → operator_of (unary_opcode w op) ≡ Some (Unary w op)
unfolding operator_of rows operators_32 operators_64 conversions
unary_row W32 Clz = refl
unary_row W32 _ = refl
unary_row W64 Clz = refl
unary_row W64 _ = refl

pub binary_row : (w : Width) (op : Bin) → operator_of (binary_opcode w op) ≡ Some (Binary w op)
unfolding operator_of rows operators_32 operators_64 conversions
binary_row W32 Add = refl
binary_row W32 _ = refl
binary_row W64 Add = refl
binary_row W64 _ = refl

pub conversion_row : (op : Conv) → operator_of (conversion_opcode op) ≡ Some (Convert op)
unfolding operator_of rows operators_32 operators_64 conversions
conversion_row Wrap = refl
conversion_row _ = refl

opcode : IntOp → ℕ
opcode (Eqz w) = test_opcode w
opcode (Compare w op) = comparison_opcode w op
opcode (Unary w op) = unary_opcode w op
opcode (Binary w op) = binary_opcode w op
opcode (Convert op) = conversion_opcode op

-- and no other has it
pub opcode_alone : (k n : ℕ) (op : IntOp) → operator_of k ≡ Some op → operator_of n ≡ Some op → k ≡ n
unfolding operator_of rows operators_32 operators_64 conversions opcode
opcode_alone k n op p q = code_alone opcode rows k op refl p ∙ sym (code_alone opcode rows n op refl q)

pub operator_at : (k : ℕ) (d : Option IntOp) → 0x45 ≤ k → k - 0x45 < 128 → get_or OPERATORS (k - 0x45) d ≡ operator_of k
unfolding operator_of rows operators_32 operators_64 conversions
operator_at = table_at operator_of 0x45 128 OPERATORS refl

pub no_operator : (k : ℕ) → (k < 0x45) ⊎ ((0x45 ≤ k) × (0xC4 < k)) → operator_of k ≡ None
unfolding operator_of rows operators_32 operators_64 conversions
no_operator k out = none_outside 0x45 0xC4 rows k refl out

pub operator_within : (k : ℕ) (op : IntOp) → operator_of k ≡ Some op → (0x45 ≤ k) × (k ≤ 0xC4)
unfolding operator_of rows operators_32 operators_64 conversions
operator_within k op e = row_within 0x45 0xC4 rows k op refl e

-- ---- loads

abbrev pub load_opcode : Load → ℕ
load_opcode op = get_or LOAD_OPCODES (tag_of load.the_type op) 0

pub load_row : (op : Load) → load_of (load_opcode op) ≡ Some op
unfolding load_of load_rows
load_row loads.I32 = refl
load_row _ = refl

pub load_alone : (k : ℕ) (op : Load) → load_of k ≡ Some op → k ≡ load_opcode op
unfolding load_of load_rows
load_alone k op e = code_alone load_opcode load_rows k op refl e

pub load_at : (k : ℕ) (d : Option Load) → 0x28 ≤ k → k - 0x28 < 14 → get_or LOADS (k - 0x28) d ≡ load_of k
unfolding load_of load_rows
load_at = table_at load_of 0x28 14 LOADS refl

pub no_load : (k : ℕ) → (k < 0x28) ⊎ ((0x28 ≤ k) × (0x35 < k)) → load_of k ≡ None
unfolding load_of load_rows
no_load k out = none_outside 0x28 0x35 load_rows k refl out

pub load_within : (k : ℕ) (op : Load) → load_of k ≡ Some op → (0x28 ≤ k) × (k ≤ 0x35)
unfolding load_of load_rows
load_within k op e = row_within 0x28 0x35 load_rows k op refl e

-- ---- stores

abbrev pub store_opcode : Store → ℕ
store_opcode op = get_or STORE_OPCODES (tag_of store.the_type op) 0

pub store_row : (op : Store) → store_of (store_opcode op) ≡ Some op
unfolding store_of store_rows
store_row stores.I32 = refl
store_row _ = refl

pub store_alone : (k : ℕ) (op : Store) → store_of k ≡ Some op → k ≡ store_opcode op
unfolding store_of store_rows
store_alone k op e = code_alone store_opcode store_rows k op refl e

pub store_at : (k : ℕ) (d : Option Store) → 0x36 ≤ k → k - 0x36 < 9 → get_or STORES (k - 0x36) d ≡ store_of k
unfolding store_of store_rows
store_at = table_at store_of 0x36 9 STORES refl

pub no_store : (k : ℕ) → (k < 0x36) ⊎ ((0x36 ≤ k) × (0x3E < k)) → store_of k ≡ None
unfolding store_of store_rows
no_store k out = none_outside 0x36 0x3E store_rows k refl out

pub store_within : (k : ℕ) (op : Store) → store_of k ≡ Some op → (0x36 ≤ k) × (k ≤ 0x3E)
unfolding store_of store_rows
store_within k op e = row_within 0x36 0x3E store_rows k op refl e
