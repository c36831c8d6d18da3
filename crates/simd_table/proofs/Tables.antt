-- The program's tables hold what the rows say.
use Rattle.std.proofs.Common.{◌≡◌, ℕ, ◌-◌, ◌<◌, ◌≤◌, List, [], ◌∷◌, map, get_or, true, Option, Some, None, refl, sym, ap, ◌∙◌, nat_eq, nat_lt, inl, inr, arith}
use Rattle.lane_core.specs.declared.operators.named.LaneOp.{LaneOp}
use Rattle.lane_core.specs.declared.operators.named.LaneOp.TheVariants.{Load, Store, LoadLane, StoreLane, Const, Shuffle, Splat, Extract, Replace, Bitselect, One, Two, Shift, Test}
use Rattle.lane_core.specs.declared.vector.Shape.{Shape}
use Rattle.lane_core.specs.declared.vector.Shape.TheVariants.{I8x16}
use Rattle.lane_core.specs.declared.operators.memory.LaneLoad.{LaneLoad}
use Rattle.lane_core.specs.declared.operators.memory.LaneLoad.TheVariants.{Whole}
use Rattle.lane_core.specs.declared.operators.memory.LaneExtract.{LaneExtract}
use Rattle.lane_core.specs.declared.operators.memory.LaneExtract.TheVariants as extracts
use Rattle.lane_core.specs.declared.operators.lanes.Lane1.{Lane1}
use Rattle.lane_core.specs.declared.operators.lanes.Lane1.TheVariants.{V128Not}
use Rattle.lane_core.specs.declared.operators.lanes.LaneShift.{LaneShift}
use Rattle.lane_core.specs.declared.operators.lanes.LaneShift.TheVariants.{I8x16Shl}
use Rattle.lane_core.specs.declared.operators.lanes.LaneTest.{LaneTest}
use Rattle.lane_core.specs.declared.operators.lanes.LaneTest.TheVariants.{V128AnyTrue}
use Rattle.lane_core.specs.declared.operators.pairs.Lane2.{Lane2}
use Rattle.lane_core.specs.declared.operators.pairs.Lane2.TheVariants.{I8x16Swizzle}
use Rattle.lane_core.specs.contracts.vector.Shape as shape
use Rattle.lane_core.specs.contracts.operators.memory.LaneLoad as load
use Rattle.lane_core.specs.contracts.operators.memory.LaneExtract as extract
use Rattle.lane_core.specs.contracts.operators.lanes.Lane1 as one
use Rattle.lane_core.specs.contracts.operators.lanes.LaneShift as shift
use Rattle.lane_core.specs.contracts.operators.lanes.LaneTest as test
use Rattle.lane_core.specs.contracts.operators.pairs.Lane2 as two
use Rattle.opcode_table.proofs.Rows.{none_outside, code_alone, table_at}
use Rattle.simd_table.specs.Codes.{name_of, rows, loads_and_constants, comparisons, bits, single_lanes, bytes, halves, words, long_words}
use Rattle.simd_table.specs.declared.codes.TheConstants.{LOADS, EXTRACTS, ONES, TWOS, SHIFTS, TESTS, LANE_LOADS, LANE_STORES, SPLATS, REPLACES}
use Rattle.simd_table.specs.declared.names.TheConstants.{NAMES}
use denote.Enum.Declared.{tag_of}

-- the code that stands in the program's table of a kind, by the number of the variant
abbrev pub load_code : LaneLoad → ℕ
load_code op = get_or LOADS (tag_of load.the_type op) 0

abbrev pub extract_code : LaneExtract → ℕ
extract_code op = get_or EXTRACTS (tag_of extract.the_type op) 0

abbrev pub one_code : Lane1 → ℕ
one_code op = get_or ONES (tag_of one.the_type op) 0

abbrev pub two_code : Lane2 → ℕ
two_code op = get_or TWOS (tag_of two.the_type op) 0

abbrev pub shift_code : LaneShift → ℕ
shift_code op = get_or SHIFTS (tag_of shift.the_type op) 0

abbrev pub test_code : LaneTest → ℕ
test_code op = get_or TESTS (tag_of test.the_type op) 0

abbrev pub load_lane_code : Shape → ℕ
load_lane_code s = get_or LANE_LOADS (tag_of shape.the_type s) 0

abbrev pub store_lane_code : Shape → ℕ
store_lane_code s = get_or LANE_STORES (tag_of shape.the_type s) 0

abbrev pub splat_code : Shape → ℕ
splat_code s = get_or SPLATS (tag_of shape.the_type s) 0

abbrev pub replace_code : Shape → ℕ
replace_code s = get_or REPLACES (tag_of shape.the_type s) 0

-- the row of that code is the instruction's
pub load_row : (op : LaneLoad) → name_of (load_code op) ≡ Some (Load op)
unfolding name_of rows loads_and_constants comparisons bits single_lanes bytes halves words long_words
load_row Whole = refl
load_row _ = refl

pub extract_row : (op : LaneExtract) → name_of (extract_code op) ≡ Some (Extract op)
unfolding name_of rows loads_and_constants comparisons bits single_lanes bytes halves words long_words
extract_row extracts.I8x16S = refl
extract_row _ = refl

pub one_row : (op : Lane1) → name_of (one_code op) ≡ Some (One op)
unfolding name_of rows loads_and_constants comparisons bits single_lanes bytes halves words long_words
one_row V128Not = refl
one_row _ = refl

pub two_row : (op : Lane2) → name_of (two_code op) ≡ Some (Two op)
unfolding name_of rows loads_and_constants comparisons bits single_lanes bytes halves words long_words
two_row I8x16Swizzle = refl
two_row _ = refl

pub shift_row : (op : LaneShift) → name_of (shift_code op) ≡ Some (Shift op)
unfolding name_of rows loads_and_constants comparisons bits single_lanes bytes halves words long_words
shift_row I8x16Shl = refl
shift_row _ = refl

pub test_row : (op : LaneTest) → name_of (test_code op) ≡ Some (Test op)
unfolding name_of rows loads_and_constants comparisons bits single_lanes bytes halves words long_words
test_row V128AnyTrue = refl
test_row _ = refl

pub load_lane_row : (s : Shape) → name_of (load_lane_code s) ≡ Some (LoadLane s)
unfolding name_of rows loads_and_constants comparisons bits single_lanes bytes halves words long_words
load_lane_row I8x16 = refl
load_lane_row _ = refl

pub store_lane_row : (s : Shape) → name_of (store_lane_code s) ≡ Some (StoreLane s)
unfolding name_of rows loads_and_constants comparisons bits single_lanes bytes halves words long_words
store_lane_row I8x16 = refl
store_lane_row _ = refl

pub splat_row : (s : Shape) → name_of (splat_code s) ≡ Some (Splat s)
unfolding name_of rows loads_and_constants comparisons bits single_lanes bytes halves words long_words
splat_row I8x16 = refl
splat_row _ = refl

pub replace_row : (s : Shape) → name_of (replace_code s) ≡ Some (Replace s)
unfolding name_of rows loads_and_constants comparisons bits single_lanes bytes halves words long_words
replace_row I8x16 = refl
replace_row _ = refl

pub store_row : name_of 11 ≡ Some Store
unfolding name_of rows loads_and_constants comparisons bits single_lanes bytes halves words long_words
store_row = refl

pub const_row : name_of 12 ≡ Some Const
unfolding name_of rows loads_and_constants comparisons bits single_lanes bytes halves words long_words
const_row = refl

pub shuffle_row : name_of 13 ≡ Some Shuffle
unfolding name_of rows loads_and_constants comparisons bits single_lanes bytes halves words long_words
shuffle_row = refl

pub bitselect_row : name_of 82 ≡ Some Bitselect
unfolding name_of rows loads_and_constants comparisons bits single_lanes bytes halves words long_words
bitselect_row = refl

pub ruleset single_rows = (store_row, const_row, shuffle_row, bitselect_row)

-- the code of each instruction
code : LaneOp → ℕ
code (Load op) = load_code op
code Store = 11
code (LoadLane s) = load_lane_code s
code (StoreLane s) = store_lane_code s
code Const = 12
code Shuffle = 13
code (Splat s) = splat_code s
code (Extract op) = extract_code op
code (Replace s) = replace_code s
code Bitselect = 82
code (One op) = one_code op
code (Two op) = two_code op
code (Shift op) = shift_code op
code (Test op) = test_code op

-- and no other code's
pub one_code_only : (k n : ℕ) (op : LaneOp) → name_of k ≡ Some op → name_of n ≡ Some op → k ≡ n
unfolding name_of rows loads_and_constants comparisons bits single_lanes bytes halves words long_words code
one_code_only k n op p q = code_alone code rows k op refl p ∙ sym (code_alone code rows n op refl q)

-- the table of names holds the row of each code below its length, and no row has a greater code
pub name_at : (k : ℕ) (d : Option LaneOp) → k < 224 → get_or NAMES k d ≡ name_of k
unfolding name_of rows loads_and_constants comparisons bits single_lanes bytes halves words long_words
name_at k d below =
    let all : k - 0 ≡ k = omega arith in
    rw all at (table_at name_of 0 224 NAMES refl k d (omega arith) (omega arith))

pub no_name : (k : ℕ) → 224 ≤ k → name_of k ≡ None
unfolding name_of rows loads_and_constants comparisons bits single_lanes bytes halves words long_words
no_name k past = none_outside 0 223 rows k refl (inr (omega arith, omega arith))
