-- Vectors as two integers of 64 bits, the low half below. A constant becomes two constants and a drop two drops; what else
-- takes or gives a vector becomes a call of a function that does it.
use Rattle.std.specs.Prelude.{ℕ, ◌%◌, ◌/◌, ◌^◌, Bool, true, false, if◌then◌else◌, not, ◌&&◌, List, [], ◌∷◌}
use Rattle.std.specs.List.{list_all}
use Rattle.wasm_ast.specs.declared.module.ty.Ty.{Ty}
use Rattle.wasm_ast.specs.declared.module.ty.Ty.TheVariants.{I64, V128}
use Rattle.wasm_ast.specs.declared.module.op.Op.TheVariants as ops
use Rattle.wasm_ast.specs.declared.module.code.Instr.{Instr, roll-Instr}
use Rattle.wasm_ast.specs.declared.module.code.Instr.TheOpen.{Instr-F}
use Rattle.typed_trees.specs.declared.node.Node.{Node}
use Rattle.rewriting_kit.specs.Lines.{Written, written, Operator, operators}

abbrev pub image : Ty → List Ty
image V128 = I64 ∷ (I64 ∷ [])
image t = t ∷ []

-- a type that stays
abbrev pub is_single : Ty → Bool
is_single V128 = false
is_single t = true

-- the halves of a constant
abbrev pub halves : ℕ → List Operator
halves v =
    record { op = ops.I64Const (v % 2 ^ 64); takes = []; gives = I64 ∷ [] }
    ∷ (record { op = ops.I64Const (v / 2 ^ 64); takes = []; gives = I64 ∷ [] } ∷ [])

abbrev pub drop_one : Written
drop_one = record { head = roll-Instr Instr-F.Drop; takes = I64 ∷ []; gives = [] }

-- what becomes of a drop of these
abbrev pub dropped : List Ty → List Node → List Node
dropped (V128 ∷ []) kept = written (drop_one ∷ (drop_one ∷ []))
dropped ts kept = kept

-- whether an instruction that takes or gives a vector is called: one that carries operands of any types stays
abbrev pub is_called : Instr-F Instr → List Ty → List Ty → Bool
is_called (Instr-F.Block t code) takes gives = false
is_called (Instr-F.Loop t code) takes gives = false
is_called (Instr-F.If t first second) takes gives = false
is_called (Instr-F.TryTable t clauses code) takes gives = false
is_called (Instr-F.Br l) takes gives = false
is_called (Instr-F.BrIf l) takes gives = false
is_called (Instr-F.BrTable ls last) takes gives = false
is_called (Instr-F.Call x) takes gives = false
is_called (Instr-F.CallIndirect x table) takes gives = false
is_called Instr-F.Return takes gives = false
is_called (Instr-F.ReturnCall x) takes gives = false
is_called (Instr-F.ReturnCallIndirect x table) takes gives = false
is_called (Instr-F.Throw x) takes gives = false
is_called Instr-F.ThrowRef takes gives = false
is_called Instr-F.Unreachable takes gives = false
is_called (Instr-F.Pure (ops.V128Const v)) takes gives = false
is_called Instr-F.Drop takes gives = false
is_called l takes gives = not (list_all is_single takes && list_all is_single gives)

-- what becomes of an instruction that is not called
abbrev pub halved : Instr-F Instr → List Ty → List Node → List Node
halved (Instr-F.Pure (ops.V128Const v)) takes kept = written (operators (halves v.0))
halved Instr-F.Drop takes kept = dropped takes kept
halved l takes kept = kept

-- what becomes of an instruction, by what stands there where it stays and where it is called
abbrev pub split : Instr-F Instr → List Ty → List Ty → List Node → List Node → List Node
split l takes gives kept call = if is_called l takes gives then call else halved l takes kept
