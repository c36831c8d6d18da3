-- What a module of 3.0 offers to a host: what it exports under a name, and the types of what it exports.
use Rattle.std.specs.Prelude.{◌≡◌, ℕ, ◌++◌, List, length, Option, Some, None, map, filter_map, slice_get, bytes_eq, option_map, option_and_then}
use Rattle.std.specs.List.{find}
use Rattle.wasm_ast.specs.Spaces.{func_indices, func_import}
use Rattle.wasm_ast.specs.declared.module.ty.FuncType.{FuncType}
use Rattle.wasm_ast.specs.declared.module.parts.ExportDesc.{ExportDesc}
use Rattle.wasm_ast.specs.declared.module.parts.ImportDesc.{ImportDesc}
use Rattle.wasm_ast.specs.declared.module.parts.ImportDesc.TheVariants as imports
use Rattle.wasm_ast.specs.declared.module.parts.Module.{Module}
use Rattle.host_kit.specs.declared.offered.GlobalType.{GlobalType}

-- what is exported under a name
abbrev pub exported : Module → List ℕ → Option ExportDesc
exported m name = option_map (λ e. e.desc) (find (λ e. bytes_eq e.name name) m.exports)

-- so many functions are imported
abbrev pub ImportsFuncs : Module → ℕ → Type 0
ImportsFuncs m n = n ≡ length (filter_map (λ i. func_import i.desc) m.imports)

-- the type of a function
abbrev pub func_type : Module → ℕ → Option FuncType
func_type m x = option_and_then (slice_get m.types) (slice_get (func_indices m) x)

-- the type of a global, and whether it can be changed
abbrev pub imported_global : ImportDesc → Option GlobalType
imported_global (imports.Global t mutable) = Some (record { ty = t; mutable = mutable })
imported_global _ = None

abbrev pub all_globals : Module → List GlobalType
all_globals m = filter_map (λ i. imported_global i.desc) m.imports ++ map (λ g. record { ty = g.ty; mutable = g.mutable }) m.globals
