-- What is asked of a module so that it stays typed without constant expressions that compute.
use Rattle.std.specs.Prelude.{◌≡◌, Bool, true, false}
use Rattle.std.specs.List.{AllByRecursion}
use Rattle.wasm_ast.specs.Fold.{known_globals}
use Rattle.wasm_ast.specs.Has.{is_mutable_global}
use Rattle.wasm_ast.specs.declared.module.ty.Ty.{Ty}
use Rattle.wasm_ast.specs.declared.module.ty.Ty.TheVariants as types
use Rattle.wasm_ast.specs.declared.module.parts.Module.{Module}
use Rattle.typed_trees.specs.Modules.{imported_of, global_import}
use Rattle.pass_plain.specs.Constants.{ModeFolds}

abbrev pub is_integer : Ty → Bool
is_integer types.I32 = true
is_integer types.I64 = true
is_integer _ = false

-- Its globals are integers, the imported ones cannot be changed, and its offsets fold.
pub record Foldable (m : Module) : Type 0 where
  pub fixed : AllByRecursion (λ i. is_mutable_global i.desc ≡ false) m.imports
  pub imported_integers : AllByRecursion (λ g. is_integer g.ty ≡ true) (imported_of global_import m)
  pub integers : AllByRecursion (λ g. is_integer g.ty ≡ true) m.globals
  pub elem_offsets : AllByRecursion (λ e. ModeFolds (known_globals m) e.mode) m.elems
  pub data_offsets : AllByRecursion (λ d. ModeFolds (known_globals m) d.mode) m.datas
