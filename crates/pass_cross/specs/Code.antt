-- What becomes of an instruction whose code has crossed already, by itself and as the head of a node.
use Rattle.std.specs.Prelude.{Bool, true, false, List}
use Rattle.wasm_ast.specs.declared.module.code.Instr.{Instr, out-Instr}
use Rattle.wasm_ast.specs.declared.module.code.Instr.TheOpen.{Instr-F}
use Rattle.core1_ast.specs.declared.module.code.Instr1.{Instr1, roll-Instr1}
use Rattle.core1_ast.specs.declared.module.code.Instr1.TheOpen.{Instr1-F}
use Rattle.typed_trees.specs.declared.node.Node.{Node}
use Rattle.typed_trees.specs.Trees.{first_body, second_body, head_of, first_of, second_of, erased}
use Rattle.crossing.specs.Code.{cross_block, cross_op, cross_argument, cross_code}

-- an instruction that holds no code and no list
abbrev pub cross_leaf : {A : Type 0} → Instr-F A → Instr1-F Instr1
cross_leaf Instr-F.Nop = Instr1-F.Nop
cross_leaf (Instr-F.Br l) = Instr1-F.Br l
cross_leaf (Instr-F.BrIf l) = Instr1-F.BrIf l
cross_leaf Instr-F.Return = Instr1-F.Return
cross_leaf (Instr-F.Call x) = Instr1-F.Call x
cross_leaf (Instr-F.CallIndirect t table) = Instr1-F.CallIndirect t
cross_leaf Instr-F.Drop = Instr1-F.Drop
cross_leaf Instr-F.Select = Instr1-F.Select
cross_leaf (Instr-F.SelectTyped ts) = Instr1-F.Select
cross_leaf (Instr-F.LocalGet x) = Instr1-F.LocalGet x
cross_leaf (Instr-F.LocalSet x) = Instr1-F.LocalSet x
cross_leaf (Instr-F.LocalTee x) = Instr1-F.LocalTee x
cross_leaf (Instr-F.GlobalGet x) = Instr1-F.GlobalGet x
cross_leaf (Instr-F.GlobalSet x) = Instr1-F.GlobalSet x
cross_leaf (Instr-F.Load op arg) = Instr1-F.Load op (cross_argument arg)
cross_leaf (Instr-F.Store op arg) = Instr1-F.Store op (cross_argument arg)
cross_leaf (Instr-F.MemorySize x) = Instr1-F.MemorySize
cross_leaf (Instr-F.MemoryGrow x) = Instr1-F.MemoryGrow
cross_leaf (Instr-F.Pure op) = Instr1-F.Pure (cross_op op)
cross_leaf _ = Instr1-F.Unreachable

-- any instruction, by its code
abbrev pub cross_with : {A : Type 0} → Instr-F A → List Instr1 → List Instr1 → Instr1-F Instr1
cross_with (Instr-F.Block t code) first second = Instr1-F.Block (cross_block t) first
cross_with (Instr-F.Loop t code) first second = Instr1-F.Loop (cross_block t) first
cross_with (Instr-F.If t code other) first second = Instr1-F.If (cross_block t) first second
cross_with (Instr-F.BrTable labels last) first second = Instr1-F.BrTable labels last
cross_with l first second = cross_leaf l

abbrev pub crossed_instr : Instr → Instr1
crossed_instr i = roll-Instr1 (cross_with (out-Instr i) (cross_code (first_body (out-Instr i))) (cross_code (second_body (out-Instr i))))

abbrev pub crossed_node : Node → Instr1
crossed_node n = roll-Instr1 (cross_with (out-Instr (head_of n)) (cross_code (erased (first_of n))) (cross_code (erased (second_of n))))

-- an instruction that holds code or a list
abbrev pub holds : {A : Type 0} → Instr-F A → Bool
holds (Instr-F.Block t code) = true
holds (Instr-F.Loop t code) = true
holds (Instr-F.If t code other) = true
holds (Instr-F.BrTable labels last) = true
holds _ = false
