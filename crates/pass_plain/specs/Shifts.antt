-- Sign extension by two shifts, as a rewriting.
use Rattle.std.specs.Prelude.{ℕ, List, [], ◌∷◌, ◌++◌}
use Rattle.num_core.specs.declared.operators.Width.{Width}
use Rattle.num_core.specs.declared.operators.Width.TheVariants.{W32, W64}
use Rattle.num_core.specs.declared.operators.Bin.{Bin}
use Rattle.num_core.specs.declared.operators.Bin.TheVariants.{Shl, ShrS}
use Rattle.num_core.specs.declared.operators.Conv.TheVariants.{S8of32, S16of32, S8of64, S16of64, S32of64}
use Rattle.wasm_ast.specs.declared.module.op.Op.{Op}
use Rattle.wasm_ast.specs.declared.module.op.Op.TheVariants as ops
use Rattle.wasm_ast.specs.declared.module.code.Instr.{Instr, out-Instr}
use Rattle.wasm_ast.specs.declared.module.code.Instr.TheOpen.{Instr-F}
use Rattle.wasm_ast.specs.declared.module.code.Instr.TheVariants.{Pure}
use Rattle.typed_trees.specs.declared.node.Node.{Node}
use Rattle.typed_trees.specs.Operands.{int_type}
use Rattle.rewriting_kit.specs.Rewrites.{Layer, node_of}

-- a constant, and an operator on two integers
abbrev pub constant : Width → ℕ → Op
constant W32 n = ops.I32Const n
constant W64 n = ops.I64Const n

abbrev pub constant_node : Width → ℕ → Node
constant_node w n = node_of (Pure (constant w n)) [] (int_type w ∷ []) [] []

-- a shift by so many bits, and shifts to the left and back
abbrev pub shift : Width → ℕ → Bin → List Node
shift w n op = constant_node w n ∷ (node_of (Pure (ops.Binary w op)) (int_type w ∷ (int_type w ∷ [])) (int_type w ∷ []) [] [] ∷ [])

abbrev pub extend : Width → ℕ → List Node
extend w n = shift w n Shl ++ shift w n ShrS

-- what becomes of an instruction that otherwise stays as these nodes
abbrev pub shifted : Instr-F Instr → List Node → List Node
shifted (Instr-F.Pure (ops.Convert S8of32)) kept = extend W32 24
shifted (Instr-F.Pure (ops.Convert S16of32)) kept = extend W32 16
shifted (Instr-F.Pure (ops.Convert S8of64)) kept = extend W64 56
shifted (Instr-F.Pure (ops.Convert S16of64)) kept = extend W64 48
shifted (Instr-F.Pure (ops.Convert S32of64)) kept = extend W64 32
shifted _ kept = kept

abbrev pub by_shifts : Layer (Unit {0})
by_shifts x head takes gives first second = shifted (out-Instr head) (node_of head takes gives first second ∷ [])
