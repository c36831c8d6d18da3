-- The types that instructions without context take from the operand stack and leave there, the top last: chapter 3 of the
-- standard, "Numeric Instructions", "Vector Instructions" and "Memory Instructions".
use Rattle.std.specs.Prelude.{ℕ, List, [], ◌∷◌}
use Rattle.num_core.specs.declared.operators.Width.{Width}
use Rattle.num_core.specs.declared.operators.Width.TheVariants.{W32, W64}
use Rattle.num_core.specs.declared.operators.Conv.{Conv}
use Rattle.num_core.specs.Integers.{width_from, width_to}
use Rattle.lane_core.specs.declared.vector.Shape.{Shape}
use Rattle.lane_core.specs.declared.vector.Shape.TheVariants.{I8x16, I16x8, I32x4, I64x2}
use Rattle.wasm_ast.specs.declared.module.ty.Ty.{Ty}
use Rattle.wasm_ast.specs.declared.module.ty.Ty.TheVariants as types

-- the type of the integers of a width
abbrev pub int_type : Width → Ty
int_type W32 = types.I32
int_type W64 = types.I64

-- the type of the integer that stands for a lane
abbrev pub lane_type : Shape → Ty
lane_type I8x16 = types.I32
lane_type I16x8 = types.I32
lane_type I32x4 = types.I32
lane_type I64x2 = types.I64
