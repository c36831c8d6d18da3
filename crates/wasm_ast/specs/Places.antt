-- Where code and types stand in a module; code that cannot be reached is included.
use Rattle.std.specs.Prelude.{Bool, false, ◌||◌, [], unwrap_or}
use Rattle.std.specs.List.{list_any}
use Rattle.wasm_ast.specs.declared.module.ty.FuncType.{FuncType}
use Rattle.wasm_ast.specs.declared.module.parts.ImportDesc.{ImportDesc}
use Rattle.wasm_ast.specs.declared.module.parts.ImportDesc.TheVariants as imports
use Rattle.wasm_ast.specs.declared.module.parts.Table.{Table}
use Rattle.wasm_ast.specs.declared.module.parts.Mode.{Mode}
use Rattle.wasm_ast.specs.declared.module.parts.Mode.TheVariants.{Active}
use Rattle.wasm_ast.specs.declared.module.parts.Element.{Element}
use Rattle.wasm_ast.specs.declared.module.parts.Module.{Module}
use Rattle.wasm_ast.specs.declared.features.kind.Feature.{Feature}
use Rattle.wasm_ast.specs.Occurrence.{Head, some_in}
use Rattle.wasm_ast.specs.Features.{type_shows}

-- in the offset of an active segment
abbrev pub in_offset : (Head → Bool) → Mode → Bool
in_offset p (Active x offset) = some_in p offset
in_offset p _ = false

-- in an element segment
abbrev pub in_element : (Head → Bool) → Element → Bool
in_element p e = in_offset p e.mode || list_any (some_in p) e.items

-- in the expression of a table
abbrev pub in_table : (Head → Bool) → Table → Bool
in_table p t = some_in p (unwrap_or t.init [])

-- in the bodies of the functions
abbrev pub in_bodies : (Head → Bool) → Module → Bool
in_bodies p m = list_any (λ b. some_in p b.code) m.codes

-- in the bodies and the other expressions of the module, outside element segments
abbrev pub outside_elements : (Head → Bool) → Module → Bool
outside_elements p m =
    list_any (in_table p) m.tables
    || list_any (λ g. some_in p g.init) m.globals
    || in_bodies p m
    || list_any (λ s. in_offset p s.mode) m.datas

abbrev pub anywhere : (Head → Bool) → Module → Bool
anywhere p m = outside_elements p m || list_any (in_element p) m.elems

-- a function type that names a type which shows the feature
abbrev pub func_type_shows : Feature → FuncType → Bool
func_type_shows f t = list_any (type_shows f) t.params || list_any (type_shows f) t.results

abbrev pub global_import_shows : Feature → ImportDesc → Bool
global_import_shows f (imports.Global t mutable) = type_shows f t
global_import_shows f _ = false

-- the value types of the module outside code: of functions, globals and locals
abbrev pub declares : Feature → Module → Bool
declares f m =
    list_any (func_type_shows f) m.types
    || list_any (λ i. global_import_shows f i.desc) m.imports
    || list_any (λ g. type_shows f g.ty) m.globals
    || list_any (λ b. list_any (type_shows f) b.locals) m.codes

abbrev pub table_import_shows : Feature → ImportDesc → Bool
table_import_shows f (imports.Table t limits) = type_shows f t
table_import_shows f _ = false

-- the reference types of tables and element segments
abbrev pub holds : Feature → Module → Bool
holds f m =
    list_any (λ i. table_import_shows f i.desc) m.imports
    || list_any (λ t. type_shows f t.ty) m.tables
    || list_any (λ e. type_shows f e.ty) m.elems
