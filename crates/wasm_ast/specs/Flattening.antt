-- How values of 3.0 are carried by values of 1.0: the mapping of this project, part by part.
use Rattle.std.specs.Prelude.{List, [], ◌∷◌, take, flat_map}
use Rattle.wasm_ast.specs.declared.module.ty.Ty.{Ty}
use Rattle.wasm_ast.specs.declared.module.ty.Ty.TheVariants.{I32, I64, F32, F64, V128, Func, Extern, Exn}
use Rattle.wasm_ast.specs.declared.module.ty.FuncType.{FuncType}

-- A vector is two i64, the low half first; a reference is an i32. Floats are outside the profile and stay.
abbrev pub flattened : Ty → List Ty
flattened I32 = I32 ∷ []
flattened I64 = I64 ∷ []
flattened F32 = F32 ∷ []
flattened F64 = F64 ∷ []
flattened V128 = I64 ∷ (I64 ∷ [])
flattened Func = I32 ∷ []
flattened Extern = I32 ∷ []
flattened Exn = I32 ∷ []

-- types in a row, flattened and joined
abbrev pub flat : List Ty → List Ty
flat ts = flat_map flattened ts

-- the type of the lowered function: the parameters flattened, and the first flattened result alone
abbrev pub lowered : FuncType → FuncType
lowered t = record { params = flat t.params; results = take 1 (flat t.results) }
