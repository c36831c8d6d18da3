-- The operators on integers that 1.0 has: chapter 5 of the 1.0 standard, "Numeric Instructions". Their opcodes are the
-- rows of the crate opcode_table.
use Rattle.std.specs.Prelude.{ℕ, Option, Some, None, option_and_then}
use Rattle.num_core.specs.declared.operators.Conv.TheVariants as convs
use Rattle.opcode_table.specs.declared.int_op.IntOp.{IntOp}
use Rattle.opcode_table.specs.declared.int_op.IntOp.TheVariants as rows
use Rattle.opcode_table.specs.Operators as table
use Rattle.core1_ast.specs.declared.module.op.Op1.{Op1}
use Rattle.core1_ast.specs.declared.module.op.Op1.TheVariants.{Eqz, Compare, Unary, Binary, Convert}
use Rattle.core1_ast.specs.declared.module.op.Conv1.TheVariants.{Wrap, Ext32S, Ext32U}

-- an operator as 1.0 has it. The extensions of a sign came later
abbrev pub op_of : IntOp → Option Op1
op_of (rows.Eqz w) = Some (Eqz w)
op_of (rows.Compare w op) = Some (Compare w op)
op_of (rows.Unary w op) = Some (Unary w op)
op_of (rows.Binary w op) = Some (Binary w op)
op_of (rows.Convert convs.Wrap) = Some (Convert Wrap)
op_of (rows.Convert convs.Ext32S) = Some (Convert Ext32S)
op_of (rows.Convert convs.Ext32U) = Some (Convert Ext32U)
op_of (rows.Convert _) = None

-- the operator of 1.0 with this opcode
abbrev pub operator_of : ℕ → Option Op1
operator_of k = option_and_then op_of (table.operator_of k)
