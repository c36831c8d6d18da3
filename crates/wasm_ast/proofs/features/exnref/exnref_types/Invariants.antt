use Rattle.std.proofs.Common.{◌≡◌, map, take}
use Rattle.wasm_ast.specs.declared.features.kind.Feature.TheVariants as features
use Rattle.wasm_ast.specs.Places.{func_type_shows}
use Rattle.wasm_ast.proofs.features.exnref.exnref_types.Given as goal

-- those of the types so far
abbrev pub invariant-loop-ty : goal.invariant-loop-ty
invariant-loop-ty l = l.marks.items ≡ map (func_type_shows features.Exceptions) (take l.ty-index l.types)
