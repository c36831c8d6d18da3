-- The function types that name exnref, as marks by their numbers.
use Rattle.std.proofs.Common.{◌≡◌, false, map, refl, ap, ◌∙◌, Option, Some, None}
use Rattle.std.specs.Prelude.{option_map, slice_get, unwrap_or}
use Rattle.std.proofs.Math.Path.{fun_ext}
use Rattle.std.proofs.lemmas.Option.{slice_get-map}
use Rattle.wasm_ast.specs.declared.module.ty.FuncType.{FuncType}
use Rattle.wasm_ast.specs.declared.module.parts.Module.{Module}
use Rattle.wasm_ast.specs.declared.features.kind.Feature.TheVariants as features
use Rattle.wasm_ast.specs.Places.{func_type_shows}
use Rattle.wasm_ast.specs.Marking.{is_marked}
use Rattle.wasm_ast.specs.Has.{names_exnref, is_exnref_type}

named : (o : Option FuncType) → unwrap_or (option_map (func_type_shows features.Exceptions) o) false ≡ names_exnref o
named (Some t) = refl
named None = refl

pub marked_exnref : (m : Module) → is_marked (map (func_type_shows features.Exceptions) m.types) ≡ is_exnref_type m
marked_exnref m =
    fun_ext (λ t. ap (λ o. unwrap_or o false) (slice_get-map (func_type_shows features.Exceptions) m.types t) ∙ named (slice_get m.types t))
