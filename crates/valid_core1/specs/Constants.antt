-- The type of an instruction that is a constant expression by itself ("Constant Expressions" of chapter 3).
use Rattle.std.specs.Prelude.{Bool, false, cond, List, [], ◌∷◌, Option, Some, None, slice_get}
use Rattle.core1_ast.specs.declared.module.ty.Ty1.{Ty1}
use Rattle.core1_ast.specs.declared.module.ty.Ty1.TheVariants as types
use Rattle.core1_ast.specs.declared.module.op.Op1.{Op1}
use Rattle.core1_ast.specs.declared.module.op.Op1.TheVariants as ops
use Rattle.core1_ast.specs.declared.module.code.Instr1.{Instr1, out-Instr1}
use Rattle.core1_ast.specs.declared.module.code.Instr1.TheOpen.{Instr1-F}
use Rattle.core1_ast.specs.Spaces.{GlobalType}
use Rattle.valid_core1.specs.Forms.{same_type}

abbrev pub const_type : Op1 → Option Ty1
const_type (ops.I32Const n) = Some types.I32
const_type (ops.I64Const n) = Some types.I64
const_type _ = None

-- a global that cannot be changed
abbrev pub fixed_type : Option GlobalType → Option Ty1
fixed_type None = None
fixed_type (Some g) = cond g.mutable None (Some g.type)

-- by the globals that it may name
abbrev pub constant_type : List GlobalType → Instr1-F Instr1 → Option Ty1
constant_type globals (Instr1-F.Pure op) = const_type op
constant_type globals (Instr1-F.GlobalGet x) = fixed_type (slice_get globals x)
constant_type globals _ = None

abbrev pub has_type : Option Ty1 → Ty1 → Bool
has_type None t = false
has_type (Some u) t = same_type u t

-- each constant leaves a value, so that one value is left by one constant
abbrev pub is_constant : List GlobalType → List Instr1 → Ty1 → Bool
is_constant globals [] t = false
is_constant globals (i ∷ []) t = has_type (constant_type globals (out-Instr1 i)) t
is_constant globals (i ∷ (j ∷ code)) t = false
