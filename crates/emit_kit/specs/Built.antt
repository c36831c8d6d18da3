-- The value of the builder, the parts and bodies of a module, and what each call makes of it.
use Rattle.std.specs.Prelude.{◌≡◌, ℕ, ◌<◌, ◌≤◌, true, List, [], ◌∷◌, ◌++◌, length, slice_get, slice_set, Option, Some, None}
use Rattle.wasm_ast.specs.declared.module.ty.Ty.{Ty}
use Rattle.wasm_ast.specs.declared.module.ty.Ty.TheVariants.{I32, I64, F32, F64, V128, Func, Extern, Exn}
use Rattle.wasm_ast.specs.declared.module.ty.FuncType.{FuncType}
use Rattle.wasm_ast.specs.declared.module.op.Op.TheVariants as ops
use Rattle.wasm_ast.specs.declared.module.immediates.FloatCode.TheVariants.{Plain}
use Rattle.wasm_ast.specs.declared.module.immediates.FloatImmediates.TheVariants.{Bits32, Bits64}
use Rattle.wasm_ast.specs.declared.module.code.Instr.{Instr, roll-Instr}
use Rattle.wasm_ast.specs.declared.module.code.Instr.TheOpen.{Instr-F}
use Rattle.wasm_ast.specs.declared.module.parts.Global.{Global}
use Rattle.wasm_ast.specs.declared.module.parts.Export.{Export}
use Rattle.wasm_ast.specs.declared.module.parts.ExportDesc.TheVariants as exports
use Rattle.wasm_ast.specs.declared.module.parts.Module.{Module}
use Rattle.typed_trees.specs.declared.module.TypedFn.{TypedFn}
use Rattle.typed_trees.specs.Modules.{all_globals}

-- the parts beside bodies, and the bodies
abbrev pub Built : Type 0
Built = Module × List TypedFn

-- the least index at which the type stands
pub record IsFirstIndex (t : FuncType) (types : List FuncType) (index : ℕ) : Type 0 where
  pub there : slice_get types index ≡ Some t
  pub first : (i : ℕ) → slice_get types i ≡ Some t → index ≤ i

abbrev pub with_type : Built → FuncType → Built
with_type b t = (record b.0 { types = b.0.types ++ t ∷ [] }, b.1)

-- a type that is there keeps its first index and all else stays; a new type stands last
pub record AddsType (old : Built) (t : FuncType) (index : ℕ) (new : Built) : Type 0 where
  pub stands : IsFirstIndex t new.0.types index
  pub known : index < length old.0.types → new ≡ old
  pub unknown : length old.0.types ≤ index → new ≡ with_type old t

-- the instruction that gives the default value of a type ("Default Values" of chapter 4): zero, and null of a reference type
abbrev pub default_layer : Ty → Instr-F Instr
default_layer I32 = Instr-F.Pure (ops.I32Const 0)
default_layer I64 = Instr-F.Pure (ops.I64Const 0)
default_layer F32 = Instr-F.Float (Plain 0x43) (Bits32 0)
default_layer F64 = Instr-F.Float (Plain 0x44) (Bits64 0)
default_layer V128 = Instr-F.Pure (ops.V128Const (record { 0 = 0 }))
default_layer Func = Instr-F.Pure (ops.RefNull Func)
default_layer Extern = Instr-F.Pure (ops.RefNull Extern)
default_layer Exn = Instr-F.Pure (ops.RefNull Exn)

abbrev pub default_value : Ty → Instr
default_value t = roll-Instr (default_layer t)

-- a mutable global that begins with the default value of its type
abbrev pub new_global : Ty → Global
new_global t = record { ty = t; mutable = true; init = default_value t ∷ [] }

-- a global under this name, if there is one
abbrev pub exported : Option (List ℕ) → ℕ → List Export
exported None index = []
exported (Some name) index = record { name = name; desc = exports.Global index } ∷ []

-- the new global stands last, and so does its export
abbrev pub with_global : Built → Ty → Option (List ℕ) → Built
with_global b t export =
    (record b.0 { globals = b.0.globals ++ new_global t ∷ []; exports = b.0.exports ++ exported export (length (all_globals b.0)) }, b.1)

-- the function stands last, and so does its body
abbrev pub with_function : Built → ℕ → TypedFn → Built
with_function b t f = (record b.0 { funcs = b.0.funcs ++ t ∷ [] }, b.1 ++ f ∷ [])

-- this body stands at this place
abbrev pub with_body : Built → ℕ → TypedFn → Built
with_body b index f = (b.0, slice_set b.1 index f)
