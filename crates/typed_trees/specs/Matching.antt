-- When a value of one type serves where another type is asked for: chapter 3 of the standard, "Matching". In this profile
-- a value type matches itself alone.
use Rattle.std.specs.Prelude.{Bool, true, false, ◌&&◌, List, [], ◌∷◌}
use Rattle.wasm_ast.specs.declared.module.ty.Ty.{Ty}
use Rattle.wasm_ast.specs.declared.module.ty.Ty.TheVariants.{I32, I64, F32, F64, V128, Func, Extern, Exn}

abbrev pub matches : Ty → Ty → Bool
matches I32 I32 = true
matches I64 I64 = true
matches F32 F32 = true
matches F64 F64 = true
matches V128 V128 = true
matches Func Func = true
matches Extern Extern = true
matches Exn Exn = true
matches _ _ = false

-- "Result Types": one by one
abbrev pub all_match : List Ty → List Ty → Bool
all_match [] [] = true
all_match (s ∷ ss) (t ∷ ts) = matches s t && all_match ss ts
all_match _ _ = false
