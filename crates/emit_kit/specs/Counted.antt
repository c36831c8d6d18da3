-- What the builder knows of its parts, so that no call has to go through them.
use Rattle.std.specs.Prelude.{◌≡◌, ℕ, List, length, filter_map}
use Rattle.wasm_ast.specs.declared.module.parts.Module.{Module}
use Rattle.wasm_ast.specs.Spaces.{func_import}
use Rattle.typed_trees.specs.Modules.{imported_of, global_import}
use Rattle.emit_kit.specs.FirstTypes.{TellsOfTypes}

-- the first indices of its types, and how many functions and globals are imported
pub record Counted (m : Module) (first_types : List (List ℕ × ℕ)) (imported_funcs imported_globals : ℕ) : Type 0 where
  pub types : TellsOfTypes m.types first_types
  pub funcs : imported_funcs ≡ length (filter_map (λ i. func_import i.desc) m.imports)
  pub globals : imported_globals ≡ length (imported_of global_import m)
