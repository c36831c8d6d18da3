-- How types and values of 3.0 are carried by those of 1.0, lowest first: this project's own mapping.
use Rattle.std.specs.Prelude.{ℕ, ◌+◌, List, [], ◌∷◌}
use Rattle.std.specs.List.{flat_map}
use Rattle.host_kit.specs.declared.value.Value.{Value}
use Rattle.host_kit.specs.declared.value.Value.TheVariants as values
use Rattle.wasm_ast.specs.declared.module.ty.Ty.{Ty}
use Rattle.wasm_ast.specs.declared.module.ty.Ty.TheVariants as types
use Rattle.core1_ast.specs.declared.module.ty.Ty1.{Ty1}
use Rattle.core1_ast.specs.declared.module.ty.Ty1.TheVariants as types1

-- A vector is two i64, a reference is an i32, and a number stands for itself
abbrev pub flattened : Ty → List Ty1
flattened types.I32 = types1.I32 ∷ []
flattened types.I64 = types1.I64 ∷ []
flattened types.F32 = types1.F32 ∷ []
flattened types.F64 = types1.F64 ∷ []
flattened types.V128 = types1.I64 ∷ (types1.I64 ∷ [])
flattened types.Func = types1.I32 ∷ []
flattened types.Extern = types1.I32 ∷ []
flattened types.Exn = types1.I32 ∷ []

abbrev pub flat : List Ty → List Ty1
flat types = flat_map flattened types

-- A vector is its low half and its high half. Of references null is 0, and any other is one more than its number
abbrev pub flatten : Value → List Value
flatten (values.I32 n) = values.I32 n ∷ []
flatten (values.I64 n) = values.I64 n ∷ []
flatten (values.V128 low high) = values.I64 low ∷ (values.I64 high ∷ [])
flatten (values.Func x) = values.I32 (x + 1) ∷ []
flatten (values.Extern a) = values.I32 (a + 1) ∷ []
flatten values.NullFunc = values.I32 0 ∷ []
flatten values.NullExtern = values.I32 0 ∷ []

-- a value of 1.0 as a word of 64 bits: an i32 is extended with zeros
abbrev pub word : Value → ℕ
word (values.I32 n) = n
word (values.I64 n) = n
word _ = 0
