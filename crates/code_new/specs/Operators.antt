-- The operators on integers of 3.0: chapter 5 of the standard, "Numeric Instructions". Their opcodes are the rows of the
-- crate opcode_table, and 3.0 has each of them.
use Rattle.opcode_table.specs.declared.int_op.IntOp.{IntOp}
use Rattle.opcode_table.specs.declared.int_op.IntOp.TheVariants as rows
use Rattle.wasm_ast.specs.declared.module.op.Op.{Op}
use Rattle.wasm_ast.specs.declared.module.op.Op.TheVariants.{Eqz, Compare, Unary, Binary, Convert}

-- an operator as 3.0 has it
abbrev pub op_of : IntOp → Op
op_of (rows.Eqz w) = Eqz w
op_of (rows.Compare w op) = Compare w op
op_of (rows.Unary w op) = Unary w op
op_of (rows.Binary w op) = Binary w op
op_of (rows.Convert op) = Convert op
