-- In this profile types match that are equal, and no others.
use Rattle.std.proofs.Common.{◌≡◌, true, refl}
use Rattle.wasm_ast.specs.declared.module.ty.Ty.{Ty}
use Rattle.wasm_ast.specs.declared.module.ty.Ty.TheVariants.{I32, I64, F32, F64, V128, Func, Extern, Exn}
use Rattle.typing_kit.proofs.Laws.{Lawful, lawful_of_equality}
use Rattle.typed_trees.specs.Contexts.{Context}
use Rattle.typed_trees.specs.Forms.{language}
use Rattle.typed_trees.specs.Matching.{matches}

pub matches_self : (t : Ty) → matches t t ≡ true
matches_self I32 = refl
matches_self I64 = refl
matches_self F32 = refl
matches_self F64 = refl
matches_self V128 = refl
matches_self Func = refl
matches_self Extern = refl
matches_self Exn = refl

-- types that match are equal
pub matches_equal : (s t : Ty) → matches s t ≡ true → s ≡ t
matches_equal I32 I32 h = refl
matches_equal I64 I64 h = refl
matches_equal F32 F32 h = refl
matches_equal F64 F64 h = refl
matches_equal V128 V128 h = refl
matches_equal Func Func h = refl
matches_equal Extern Extern h = refl
matches_equal Exn Exn h = refl
matches_equal _ _ h = let no : ⊥ = cc in absurd no

pub lawful : (c : Context) → Lawful (language c)
lawful c = lawful_of_equality (language c) matches_self matches_equal
