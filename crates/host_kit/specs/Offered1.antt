-- What a module of 1.0 offers to a host: what it exports under a name, and the types of what it exports.
use Rattle.std.specs.Prelude.{◌≡◌, ℕ, ◌++◌, List, length, Option, Some, None, map, filter_map, slice_get, bytes_eq, option_map, option_and_then}
use Rattle.std.specs.List.{find}
use Rattle.core1_ast.specs.Spaces.{func_indices, func_import}
use Rattle.core1_ast.specs.declared.module.ty.Ty1.{Ty1}
use Rattle.core1_ast.specs.declared.module.ty.FuncType1.{FuncType1}
use Rattle.core1_ast.specs.declared.module.parts.ExportDesc1.{ExportDesc1}
use Rattle.core1_ast.specs.declared.module.parts.ImportDesc1.{ImportDesc1}
use Rattle.core1_ast.specs.declared.module.parts.ImportDesc1.TheVariants as imports
use Rattle.core1_ast.specs.declared.module.parts.Module1.{Module1}
use Rattle.host_kit.specs.declared.offered1.GlobalType1.{GlobalType1}

-- what is exported under a name
abbrev pub exported1 : Module1 → List ℕ → Option ExportDesc1
exported1 m name = option_map (λ e. e.desc) (find (λ e. bytes_eq e.name name) m.exports)

-- the type of a global that is imported
abbrev pub global_import1 : ImportDesc1 → Option Ty1
global_import1 (imports.Global t mutable) = Some t
global_import1 _ = None

-- so many functions are imported
abbrev pub ImportsFuncs1 : Module1 → ℕ → Type 0
ImportsFuncs1 m n = n ≡ length (filter_map (λ i. func_import i.desc) m.imports)

-- the type of a function
abbrev pub func_type1 : Module1 → ℕ → Option FuncType1
func_type1 m x = option_and_then (slice_get m.types) (slice_get (func_indices m) x)

-- the type of a global, and whether it can be changed
abbrev pub imported_global1 : ImportDesc1 → Option GlobalType1
imported_global1 (imports.Global t mutable) = Some (record { ty = t; mutable = mutable })
imported_global1 _ = None

abbrev pub all_globals1 : Module1 → List GlobalType1
all_globals1 m = filter_map (λ i. imported_global1 i.desc) m.imports ++ map (λ g. record { ty = g.ty; mutable = g.mutable }) m.globals
