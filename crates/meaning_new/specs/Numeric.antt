-- "Numeric Instructions", "Vector Instructions" and "Reference Instructions" of chapter 4: what the operands become, or
-- none where the instruction traps. The last operand lies on the top.
use Rattle.std.specs.Prelude.{ℕ, Bool, true, false, List, ◌∷◌, Option, Some, option_map}
use Rattle.num_core.specs.declared.operators.Width.{Width}
use Rattle.num_core.specs.declared.operators.Width.TheVariants.{W32, W64}
use Rattle.num_core.specs.Integers.{bits, wrap, binary, unary, is_zero, compares, convert, width_from, width_to}
use Rattle.lane_core.specs.declared.vector.Shape.{Shape}
use Rattle.lane_core.specs.declared.vector.Shape.TheVariants.{I64x2}
use Rattle.lane_core.specs.Shapes.{extract_shape}
use Rattle.lane_core.specs.Operators.{lanes1, lanes2, shift_lanes, test_lanes}
use Rattle.lane_core.specs.Rearranging.{shuffle, splat, extract, replace, bitselect}
use Rattle.wasm_ast.specs.declared.module.op.Op.{Op}
use Rattle.wasm_ast.specs.declared.module.op.Op.TheVariants as ops
use Rattle.evaluation_kit.specs.Leaves.{top, below}
use Rattle.meaning_new.specs.declared.val.Val.{Val}
use Rattle.meaning_new.specs.declared.val.Val.TheVariants.{I32, I64, V128, Func, Null}
use Rattle.meaning_new.specs.Store.{missing, number, int, truth}

-- the number on the top, the one below it, and the one below that
abbrev pub first : List Val → ℕ
first operands = number (top missing operands)

abbrev pub second : List Val → ℕ
second operands = first (below operands)

abbrev pub third : List Val → ℕ
third operands = second (below operands)

-- a value from one, two or three numbers, the topmost last
abbrev pub from_one : (ℕ → Val) → List Val → Option (List Val)
from_one f operands = Some (f (first operands) ∷ below operands)

abbrev pub from_two : (ℕ → ℕ → Val) → List Val → Option (List Val)
from_two f operands = Some (f (second operands) (first operands) ∷ below (below operands))

abbrev pub from_three : (ℕ → ℕ → ℕ → Val) → List Val → Option (List Val)
from_three f operands = Some (f (third operands) (second operands) (first operands) ∷ below (below (below operands)))

-- A value from one or two integers of a width. Code that is typed finds no operand of another width; where there is one,
-- its lowest bits are taken.
abbrev pub from_int : Width → (ℕ → Val) → List Val → Option (List Val)
from_int w f operands = from_one (λ i. f (wrap (bits w) i)) operands

abbrev pub from_ints : Width → (ℕ → ℕ → Val) → List Val → Option (List Val)
from_ints w f operands = from_two (λ i j. f (wrap (bits w) i) (wrap (bits w) j)) operands

-- the same where there may be none
abbrev pub from_ints_or_trap : Width → (ℕ → ℕ → Option Val) → List Val → Option (List Val)
from_ints_or_trap w f operands =
    option_map (λ v. v ∷ below (below operands)) (f (wrap (bits w) (second operands)) (wrap (bits w) (first operands)))

-- the width of the integer in a lane
abbrev pub lane_width : Shape → Width
lane_width I64x2 = W64
lane_width _ = W32

abbrev pub is_null : Val → Bool
is_null (Null t) = true
is_null _ = false

abbrev pub pure : Op → List Val → Option (List Val)
-- t.const c, t.testop, t.relop, t.unop, t.binop, t2.cvtop_t1_sx
pure (ops.I32Const i) operands = Some (I32 i ∷ operands)
pure (ops.I64Const i) operands = Some (I64 i ∷ operands)
pure (ops.Eqz w) operands = from_int w (λ i. truth (is_zero i)) operands
pure (ops.Compare w op) operands = from_ints w (λ i j. truth (compares w op i j)) operands
pure (ops.Unary w op) operands = from_int w (λ i. int w (unary w op i)) operands
pure (ops.Binary w op) operands = from_ints_or_trap w (λ i j. option_map (int w) (binary w op i j)) operands
pure (ops.Convert op) operands = from_int (width_from op) (λ i. int (width_to op) (convert op i)) operands
-- v128.const c, vvternop, shuffle and swizzle, splat, extract_lane, replace_lane, vunop, vbinop and vrelop, vshiftop, vtestop
pure (ops.V128Const v) operands = Some (V128 v.0 ∷ operands)
pure ops.Bitselect operands = from_three (λ v w choice. V128 (bitselect v w choice)) operands
pure (ops.Shuffle places) operands = from_two (λ v w. V128 (shuffle places v w)) operands
pure (ops.Splat shape) operands = from_int (lane_width shape) (λ i. V128 (splat shape i)) operands
pure (ops.Extract op lane) operands = from_one (λ v. int (lane_width (extract_shape op)) (extract op lane v)) operands
pure (ops.Replace shape lane) operands = from_two (λ v i. V128 (replace shape lane v (wrap (bits (lane_width shape)) i))) operands
pure (ops.Lanes1 op) operands = from_one (λ v. V128 (lanes1 op v)) operands
pure (ops.Lanes2 op) operands = from_two (λ v w. V128 (lanes2 op v w)) operands
pure (ops.ShiftLanes op) operands = from_two (λ v count. V128 (shift_lanes op v (wrap (bits W32) count))) operands
pure (ops.TestLanes op) operands = from_one (λ v. I32 (test_lanes op v)) operands
-- ref.null t, ref.is_null, ref.func x
pure (ops.RefNull t) operands = Some (Null t ∷ operands)
pure ops.RefIsNull operands = Some (truth (is_null (top missing operands)) ∷ below operands)
pure (ops.RefFunc x) operands = Some (Func x ∷ operands)
