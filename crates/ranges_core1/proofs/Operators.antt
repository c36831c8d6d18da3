-- Operators on operands give operands in range.
use Rattle.std.proofs.Common.{◌≡◌, ℕ, zero, suc, ◌*◌, ◌/◌, ◌<◌, ◌≤◌, ◌^◌, Bool, true, false, List, [], ◌∷◌, length, Option, Some, None, refl, arith, mod-lt, pow-suc, lit<}
use Rattle.std.specs.Prelude.{option_map, if◌then◌else◌}
use Rattle.std.proofs.lemmas.Bool.{ltb-true}
use Rattle.num_core.specs.Accesses.{load_width, load_bytes}
use Rattle.num_core.specs.Bytes.{from_bytes, to_bytes, loaded}
use Rattle.num_core.specs.Integers.{bits, binary, unary, compares, is_zero}
use Rattle.num_core.specs.declared.operators.Conv.TheVariants as conversions
use Rattle.num_core.specs.declared.operators.Load.{Load}
use Rattle.num_core.specs.declared.operators.Load.TheVariants as loads
use Rattle.num_core.specs.declared.operators.Width.{Width}
use Rattle.num_core.specs.declared.operators.Width.TheVariants.{W32, W64}
use Rattle.num_core.proofs.Ranges.{wrap_below, extend_signed_below, binary_below, unary_below, convert_below}
use Rattle.core1_ast.specs.declared.module.op.Conv1.{Conv1}
use Rattle.core1_ast.specs.declared.module.op.Conv1.TheVariants.{Wrap, Ext32S, Ext32U}
use Rattle.core1_ast.specs.declared.module.op.Op1.{Op1}
use Rattle.core1_ast.specs.declared.module.op.Op1.TheVariants as ops
use Rattle.evaluation_kit.specs.Leaves.{top, below}
use Rattle.meaning_core1.specs.declared.val1.Val1.{Val1}
use Rattle.meaning_core1.specs.Store.{absent, value_of}
use Rattle.meaning_core1.specs.Operators.{top1, next1, top_of, next_of, converted, pure_op, is_true, dropped, selected}
use Rattle.ranges_core1.specs.Ranges.{AreBytes, op_in_range}
use Rattle.ranges_core1.proofs.Lists.{IfThere, all_below, all_top}
use Rattle.ranges_core1.proofs.States.{ValueInRange, ValuesInRange, value_in, bool_in, absent_in}

-- operands, where the instruction does not trap
abbrev pub OperandsInRange : Option (List Val1) → Type 0
OperandsInRange o = IfThere ValuesInRange o

pub under : (o : List Val1) → ValuesInRange o → ValuesInRange (below o)
under o h = all_below ValueInRange o h

under_two : (o : List Val1) → ValuesInRange o → ValuesInRange (below (below o))
under_two o h = under (below o) (under o h)

pub over : (o : List Val1) → ValuesInRange o → ValueInRange (top absent o)
over o h = all_top ValueInRange o absent h absent_in

perhaps : (w : Width) (r : Option ℕ) (l : List Val1) → ((i : ℕ) → r ≡ Some i → i < 2 ^ bits w) → ValuesInRange l → OperandsInRange (option_map (λ i. value_of w i ∷ l) r)
perhaps w None l small h = tt
perhaps w (Some i) l small h = (value_in w i (small i refl), h)

converted_in : (op : Conv1) (o : List Val1) → ValueInRange (converted op o)
converted_in Wrap o = convert_below conversions.Wrap (top_of W64 o) (wrap_below 64 (top1 o))
converted_in Ext32S o = convert_below conversions.Ext32S (top_of W32 o) (wrap_below 32 (top1 o))
converted_in Ext32U o = convert_below conversions.Ext32U (top_of W32 o) (wrap_below 32 (top1 o))

pub pure_in : (op : Op1) (o : List Val1) → op_in_range op ≡ true → ValuesInRange o → OperandsInRange (pure_op op o)
pure_in (ops.I32Const i) o c h = (ltb-true i (2 ^ 32) c, h)
pure_in (ops.I64Const i) o c h = (ltb-true i (2 ^ 64) c, h)
pure_in (ops.Eqz w) o c h = (bool_in (is_zero (top_of w o)), under o h)
pure_in (ops.Compare w op) o c h = (bool_in (compares w op (next_of w o) (top_of w o)), under_two o h)
pure_in (ops.Unary w op) o c h = (value_in w (unary w op (top_of w o)) (unary_below w op (top_of w o) (wrap_below (bits w) (top1 o))), under o h)
pure_in (ops.Binary w op) o c h =
    perhaps w (binary w op (next_of w o) (top_of w o)) (below (below o))
    (λ i e. binary_below w (next_of w o) (top_of w o) i (wrap_below (bits w) (next1 o)) (wrap_below (bits w) (top1 o)) op e) (under_two o h)
pure_in (ops.Convert op) o c h = (converted_in op o, under o h)

pub dropped_in : (o : List Val1) → ValuesInRange o → OperandsInRange (dropped o)
dropped_in o h = under o h

chosen : (b : Bool) (v w : Val1) → ValueInRange v → ValueInRange w → ValueInRange (if b then v else w)
chosen true v w h k = h
chosen false v w h k = k

pub selected_in : (o : List Val1) → ValuesInRange o → OperandsInRange (selected o)
selected_in o h =
    (chosen (is_true o) (top absent (below (below o))) (top absent (below o)) (over (below (below o)) (under_two o h)) (over (below o) (under o h)), under (below (below o)) (under_two o h))

-- numbers of bytes, and bytes of numbers
from_bytes_below : (n : ℕ) (bytes : List ℕ) → length bytes ≤ n → AreBytes bytes → from_bytes bytes < 256 ^ n
from_bytes_below zero [] le h = lit< tt
from_bytes_below zero (b ∷ bytes) le h = absurd (omega arith)
from_bytes_below (suc n) [] le h =
    let more : from_bytes [] < 256 ^ n = from_bytes_below n [] (omega arith) tt in
    let all : 256 ^ suc n ≡ 256 ^ n * 256 = pow-suc 256 n in
    omega arith
from_bytes_below (suc n) (b ∷ bytes) le h =
    let more : from_bytes bytes < 256 ^ n = from_bytes_below n bytes (omega arith) h.1 in
    let all : 256 ^ suc n ≡ 256 ^ n * 256 = pow-suc 256 n in
    let one : b < 256 = h.0 in
    omega arith

pub to_bytes_are : (k i : ℕ) → AreBytes (to_bytes k i)
to_bytes_are zero i = tt
to_bytes_are (suc k) i = (mod-lt i (lit< tt), to_bytes_are k (i / 256))

pub loaded_below : (op : Load) (bytes : List ℕ) → length bytes ≤ load_bytes op → AreBytes bytes → loaded op bytes < 2 ^ bits (load_width op)
loaded_below loads.I32 bytes le h = from_bytes_below 4 bytes le h
loaded_below loads.I64 bytes le h = from_bytes_below 8 bytes le h
loaded_below loads.I32From8S bytes le h = extend_signed_below 8 32 (from_bytes bytes) (omega arith) (from_bytes_below 1 bytes le h)
loaded_below loads.I32From8U bytes le h = let less : from_bytes bytes < 256 ^ 1 = from_bytes_below 1 bytes le h in omega arith
loaded_below loads.I32From16S bytes le h = extend_signed_below 16 32 (from_bytes bytes) (omega arith) (from_bytes_below 2 bytes le h)
loaded_below loads.I32From16U bytes le h = let less : from_bytes bytes < 256 ^ 2 = from_bytes_below 2 bytes le h in omega arith
loaded_below loads.I64From8S bytes le h = extend_signed_below 8 64 (from_bytes bytes) (omega arith) (from_bytes_below 1 bytes le h)
loaded_below loads.I64From8U bytes le h = let less : from_bytes bytes < 256 ^ 1 = from_bytes_below 1 bytes le h in omega arith
loaded_below loads.I64From16S bytes le h = extend_signed_below 16 64 (from_bytes bytes) (omega arith) (from_bytes_below 2 bytes le h)
loaded_below loads.I64From16U bytes le h = let less : from_bytes bytes < 256 ^ 2 = from_bytes_below 2 bytes le h in omega arith
loaded_below loads.I64From32S bytes le h = extend_signed_below 32 64 (from_bytes bytes) (omega arith) (from_bytes_below 4 bytes le h)
loaded_below loads.I64From32U bytes le h = let less : from_bytes bytes < 256 ^ 4 = from_bytes_below 4 bytes le h in omega arith
