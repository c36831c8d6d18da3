-- Constant expressions: chapter 3 of the standard, "Constant Expressions".
use Rattle.std.specs.Prelude.{◌≡◌, ℕ, Bool, true, false, not, List, [], ◌∷◌, Option, Some, None, slice_get}
use Rattle.std.specs.List.{list_all}
use Rattle.num_core.specs.declared.operators.Bin.{Bin}
use Rattle.num_core.specs.declared.operators.Bin.TheVariants.{Add, Sub, Mul}
use Rattle.wasm_ast.specs.declared.module.ty.Ty.{Ty}
use Rattle.wasm_ast.specs.declared.module.op.Op.{Op}
use Rattle.wasm_ast.specs.declared.module.op.Op.TheVariants as ops
use Rattle.wasm_ast.specs.declared.module.code.Instr.{Instr, out-Instr}
use Rattle.wasm_ast.specs.declared.module.code.Instr.TheOpen.{Instr-F}
use Rattle.typing_kit.specs.Matching.{known}
use Rattle.typing_kit.specs.Typing.{TypedCode}
use Rattle.typed_trees.specs.Contexts.{Context}
use Rattle.typed_trees.specs.declared.global_type.GlobalType.{GlobalType}
use Rattle.typed_trees.specs.Forms.{language}

-- add, sub and mul: the extended constant expressions
abbrev pub is_constant_binary : Bin → Bool
is_constant_binary Add = true
is_constant_binary Sub = true
is_constant_binary Mul = true
is_constant_binary _ = false

abbrev pub is_constant_op : Op → Bool
is_constant_op (ops.I32Const i) = true
is_constant_op (ops.I64Const i) = true
is_constant_op (ops.V128Const v) = true
is_constant_op (ops.RefNull t) = true
is_constant_op (ops.RefFunc x) = true
is_constant_op (ops.Binary w op) = is_constant_binary op
is_constant_op _ = false

-- a global that cannot be changed
abbrev pub is_fixed : Option GlobalType → Bool
is_fixed (Some g) = not g.mutable
is_fixed None = false

abbrev pub is_constant_layer : Context → Instr-F Instr → Bool
is_constant_layer c (Instr-F.Pure op) = is_constant_op op
is_constant_layer c (Instr-F.GlobalGet x) = is_fixed (slice_get c.globals x)
is_constant_layer c _ = false

abbrev pub is_constant : Context → Instr → Bool
is_constant c i = is_constant_layer c (out-Instr i)

-- the expression is constant, and leaves one value of the type
pub record TypedConstant (c : Context) (code : List Instr) (t : Ty) : Type 0 where
  pub constant : list_all (is_constant c) code ≡ true
  pub typed : TypedCode (language c) [] code [] (known (t ∷ []))
