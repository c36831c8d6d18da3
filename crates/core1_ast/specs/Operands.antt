-- The types that instructions without context take from the operand stack and leave there, the top last
-- ("Numeric Instructions" and "Memory Instructions" of chapter 3).
use Rattle.std.specs.Prelude.{ℕ, List, [], ◌∷◌}
use Rattle.num_core.specs.declared.operators.Width.{Width}
use Rattle.num_core.specs.declared.operators.Width.TheVariants.{W32, W64}
use Rattle.num_core.specs.declared.operators.Load.{Load}
use Rattle.num_core.specs.declared.operators.Store.{Store}
use Rattle.num_core.specs.Accesses.{load_width, store_width}
use Rattle.core1_ast.specs.declared.module.ty.Ty1.{Ty1}
use Rattle.core1_ast.specs.declared.module.ty.Ty1.TheVariants as types
use Rattle.core1_ast.specs.declared.module.ty.BlockType1.{BlockType1}
use Rattle.core1_ast.specs.declared.module.ty.BlockType1.TheVariants as blocks
use Rattle.core1_ast.specs.declared.module.op.Conv1.{Conv1}
use Rattle.core1_ast.specs.declared.module.op.Conv1.TheVariants as conversions
use Rattle.core1_ast.specs.declared.module.op.Op1.{Op1}
use Rattle.core1_ast.specs.declared.module.op.Op1.TheVariants as ops

-- the type of the integers of a width
abbrev pub int_type1 : Width → Ty1
int_type1 W32 = types.I32
int_type1 W64 = types.I64

-- the types of the operand and of the result of a conversion
abbrev pub converted : Conv1 → Ty1
converted conversions.Wrap = types.I64
converted conversions.Ext32S = types.I32
converted conversions.Ext32U = types.I32

abbrev pub conversion : Conv1 → Ty1
conversion conversions.Wrap = types.I32
conversion conversions.Ext32S = types.I64
conversion conversions.Ext32U = types.I64

-- "Numeric Instructions": what an instruction takes, and what it gives; a test and a comparison give an i32
abbrev pub op_takes : Op1 → List Ty1
op_takes (ops.I32Const i) = []
op_takes (ops.I64Const i) = []
op_takes (ops.Eqz w) = int_type1 w ∷ []
op_takes (ops.Compare w op) = int_type1 w ∷ (int_type1 w ∷ [])
op_takes (ops.Unary w op) = int_type1 w ∷ []
op_takes (ops.Binary w op) = int_type1 w ∷ (int_type1 w ∷ [])
op_takes (ops.Convert op) = converted op ∷ []

abbrev pub op_gives : Op1 → List Ty1
op_gives (ops.I32Const i) = types.I32 ∷ []
op_gives (ops.I64Const i) = types.I64 ∷ []
op_gives (ops.Eqz w) = types.I32 ∷ []
op_gives (ops.Compare w op) = types.I32 ∷ []
op_gives (ops.Unary w op) = int_type1 w ∷ []
op_gives (ops.Binary w op) = int_type1 w ∷ []
op_gives (ops.Convert op) = conversion op ∷ []

-- "Memory Instructions": the types of the values of a load and of a store
abbrev pub load_type : Load → Ty1
load_type op = int_type1 (load_width op)

abbrev pub store_type : Store → Ty1
store_type op = int_type1 (store_width op)

-- "Control Instructions": the results of a block
abbrev pub block_results : BlockType1 → List Ty1
block_results blocks.Empty = []
block_results (blocks.One t) = t ∷ []
