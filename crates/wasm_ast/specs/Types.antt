-- Types compared, and types as bytes, by which lists of them are compared.
use Rattle.std.specs.Prelude.{ℕ, Bool, true, false, List, ◌∷◌, ◌++◌, map}
use Rattle.wasm_ast.specs.declared.module.ty.Ty.{Ty}
use Rattle.wasm_ast.specs.declared.module.ty.Ty.TheVariants.{I32, I64, F32, F64, V128, Func, Extern, Exn}
use Rattle.wasm_ast.specs.declared.module.ty.FuncType.{FuncType}

-- one and the same value type
abbrev pub same_type : Ty → Ty → Bool
same_type I32 I32 = true
same_type I64 I64 = true
same_type F32 F32 = true
same_type F64 F64 = true
same_type V128 V128 = true
same_type Func Func = true
same_type Extern Extern = true
same_type Exn Exn = true
same_type _ _ = false

-- the byte that stands for a value type in the binary format ("Types" of chapter 5)
abbrev pub type_code : Ty → ℕ
type_code I32 = 0x7F
type_code I64 = 0x7E
type_code F32 = 0x7D
type_code F64 = 0x7C
type_code V128 = 0x7B
type_code Func = 0x70
type_code Extern = 0x6F
type_code Exn = 0x69

-- a function type: the parameters, a zero, the results
abbrev pub type_key : FuncType → List ℕ
type_key t = map type_code t.params ++ 0 ∷ map type_code t.results
