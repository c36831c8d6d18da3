-- What code of 3.0 may name: chapter 3 of the standard, "Conventions", "Contexts".
use Rattle.std.specs.Prelude.{ℕ, Bool, true, false, List, [], ◌∷◌, Option, Some, None, slice_get, option_and_then}
use Rattle.wasm_ast.specs.declared.module.ty.Ty.{Ty}
use Rattle.wasm_ast.specs.declared.module.ty.Ty.TheVariants as types
use Rattle.wasm_ast.specs.declared.module.ty.FuncType.{FuncType}
use Rattle.wasm_ast.specs.declared.module.ty.Limits.{Limits}
use Rattle.typed_trees.specs.declared.global_type.GlobalType.{GlobalType}
use Rattle.wasm_ast.specs.declared.module.ty.BlockType.{BlockType}
use Rattle.wasm_ast.specs.declared.module.ty.BlockType.TheVariants as blocks

pub record Context : Type 0 where
  pub types : List FuncType
  -- the index of the type of each function and of each tag
  pub funcs : List ℕ
  pub tags : List ℕ
  -- the reference type of each table and of each element segment
  pub tables : List Ty
  pub elems : List Ty
  -- the limits of each memory, and how many data segments there are
  pub memories : List Limits
  pub datas : ℕ
  pub globals : List GlobalType
  -- of each function, whether it occurs in the module outside the bodies of functions and the start function
  pub refs : List Bool
  pub locals : List Ty
  -- the results of the function, inside one
  pub returns : Option (List Ty)

-- the type of a function and of a tag
abbrev pub func_type : Context → ℕ → Option FuncType
func_type c x = option_and_then (slice_get c.types) (slice_get c.funcs x)

abbrev pub tag_type : Context → ℕ → Option FuncType
tag_type c x = option_and_then (slice_get c.types) (slice_get c.tags x)

-- "Value Types": there is no rule for a float
abbrev pub is_value_type : Ty → Bool
is_value_type types.F32 = false
is_value_type types.F64 = false
is_value_type _ = true

-- "Reference Types"
abbrev pub is_reference_type : Ty → Bool
is_reference_type types.Func = true
is_reference_type types.Extern = true
is_reference_type types.Exn = true
is_reference_type _ = false

-- the operands of a select without types: numbers and vectors
abbrev pub is_plain_type : Ty → Bool
is_plain_type types.I32 = true
is_plain_type types.I64 = true
is_plain_type types.V128 = true
is_plain_type _ = false

-- "Address Types"
abbrev pub address_of : Bool → Ty
address_of true = types.I64
address_of false = types.I32

abbrev pub address_type : Limits → Ty
address_type l = address_of l.wide

-- "Block Types"
abbrev pub one_result : Bool → Ty → Option FuncType
one_result true t = Some (record { params = []; results = t ∷ [] })
one_result false t = None

abbrev pub block_type : Context → BlockType → Option FuncType
block_type c blocks.Empty = Some (record { params = []; results = [] })
block_type c (blocks.One t) = one_result (is_value_type t) t
block_type c (blocks.Index x) = slice_get c.types x
