-- "Numeric Instructions" and "Parametric Instructions" of chapter 4 of 1.0: what the operands become, or none where the
-- instruction traps. The last operand lies on the top.
use Rattle.std.specs.Prelude.{ℕ, Bool, not, nat_eq, if◌then◌else◌, List, ◌∷◌, Option, Some, option_map}
use Rattle.num_core.specs.declared.operators.Conv.TheVariants as conversions
use Rattle.num_core.specs.Integers.{bits, wrap, binary, unary, is_zero, compares, convert}
use Rattle.num_core.specs.declared.operators.Width.{Width}
use Rattle.num_core.specs.declared.operators.Width.TheVariants.{W32, W64}
use Rattle.core1_ast.specs.declared.module.op.Conv1.{Conv1}
use Rattle.core1_ast.specs.declared.module.op.Conv1.TheVariants.{Wrap, Ext32S, Ext32U}
use Rattle.core1_ast.specs.declared.module.op.Op1.{Op1}
use Rattle.core1_ast.specs.declared.module.op.Op1.TheVariants as ops
use Rattle.evaluation_kit.specs.Leaves.{top, below}
use Rattle.meaning_core1.specs.declared.val1.Val1.{Val1}
use Rattle.meaning_core1.specs.declared.val1.Val1.TheVariants.{I32, I64}
use Rattle.meaning_core1.specs.Store.{absent, number1, value_of, bool_value}

-- the integer on the top, and the one below it
abbrev pub top1 : List Val1 → ℕ
top1 operands = number1 (top absent operands)

abbrev pub next1 : List Val1 → ℕ
next1 operands = top1 (below operands)

-- The same as integers of a width. Code that is typed finds no operand of another width; where there is one, its lowest
-- bits are taken.
abbrev pub top_of : Width → List Val1 → ℕ
top_of w operands = wrap (bits w) (top1 operands)

abbrev pub next_of : Width → List Val1 → ℕ
next_of w operands = wrap (bits w) (next1 operands)

-- "Conversions"
abbrev pub converted : Conv1 → List Val1 → Val1
converted Wrap operands = I32 (convert conversions.Wrap (top_of W64 operands))
converted Ext32S operands = I64 (convert conversions.Ext32S (top_of W32 operands))
converted Ext32U operands = I64 (convert conversions.Ext32U (top_of W32 operands))

abbrev pub pure_op : Op1 → List Val1 → Option (List Val1)
-- t.const, t.testop, t.relop, t.unop, t.binop, t2.cvtop
pure_op (ops.I32Const i) operands = Some (I32 i ∷ operands)
pure_op (ops.I64Const i) operands = Some (I64 i ∷ operands)
pure_op (ops.Eqz w) operands = Some (bool_value (is_zero (top_of w operands)) ∷ below operands)
pure_op (ops.Compare w op) operands = Some (bool_value (compares w op (next_of w operands) (top_of w operands)) ∷ below (below operands))
pure_op (ops.Unary w op) operands = Some (value_of w (unary w op (top_of w operands)) ∷ below operands)
pure_op (ops.Binary w op) operands =
    option_map (λ i. value_of w i ∷ below (below operands)) (binary w op (next_of w operands) (top_of w operands))
pure_op (ops.Convert op) operands = Some (converted op operands ∷ below operands)

-- the condition on the top is not 0
abbrev pub is_true : List Val1 → Bool
is_true operands = not (nat_eq (top1 operands) 0)

-- drop, and select: below the condition lies the second operand, and the first below that
abbrev pub dropped : List Val1 → Option (List Val1)
dropped operands = Some (below operands)

abbrev pub selected : List Val1 → Option (List Val1)
selected operands =
    Some ((if is_true operands then top absent (below (below operands)) else top absent (below operands)) ∷ below (below (below operands)))
