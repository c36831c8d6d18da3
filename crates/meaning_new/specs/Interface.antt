-- What a host links a module by: its imports and exports in order, each with its names and its external type
-- ("Module Types" and "External Types" of chapter 2; "Modules" of chapter 3).
use Rattle.std.specs.Prelude.{ℕ, Bool, List, ◌++◌, map, filter_map, slice_get, Option, Some, None, option_map, option_and_then}
use Rattle.wasm_ast.specs.Spaces.{func_indices}
use Rattle.wasm_ast.specs.declared.module.ty.FuncType.{FuncType}
use Rattle.wasm_ast.specs.declared.module.ty.Limits.{Limits}
use Rattle.wasm_ast.specs.declared.module.ty.Ty.{Ty}
use Rattle.wasm_ast.specs.declared.module.parts.ExportDesc.{ExportDesc}
use Rattle.wasm_ast.specs.declared.module.parts.ExportDesc.TheVariants as exports
use Rattle.wasm_ast.specs.declared.module.parts.ImportDesc.{ImportDesc}
use Rattle.wasm_ast.specs.declared.module.parts.ImportDesc.TheVariants as imports
use Rattle.wasm_ast.specs.declared.module.parts.Module.{Module}

-- "External Types": the kind of what is linked, and its type. A global's type says whether it can be changed
pub data ExternType : Type 0 where
  func : FuncType → ExternType
  table : Ty → Limits → ExternType
  memory : Limits → ExternType
  global : Ty → Bool → ExternType
  tag : FuncType → ExternType

-- An import by its two names, and an export by its name. One whose index names nothing has no type; no typed module
-- has such a one
pub record Imported : Type 0 where
  pub from : List ℕ
  pub name : List ℕ
  pub type : Option ExternType

pub record Exported : Type 0 where
  pub name : List ℕ
  pub type : Option ExternType

-- the imports and the exports, each in its order, and the types of all tags, which exceptions that leave the module have
pub record Interface : Type 0 where
  pub imports : List Imported
  pub exports : List Exported
  pub tags : List (Option FuncType)

-- the function type with this index
abbrev pub typed_func : Module → ℕ → Option ExternType
typed_func m t = option_map (λ type. func type) (slice_get m.types t)

abbrev pub typed_tag : Module → ℕ → Option ExternType
typed_tag m t = option_map (λ type. tag type) (slice_get m.types t)

abbrev pub import_type : Module → ImportDesc → Option ExternType
import_type m (imports.Func t) = typed_func m t
import_type m (imports.Table t limits) = Some (table t limits)
import_type m (imports.Memory limits) = Some (memory limits)
import_type m (imports.Global t mutable) = Some (global t mutable)
import_type m (imports.Tag t) = typed_tag m t

-- what an import adds to the index space of its kind
abbrev pub table_import : ImportDesc → Option ExternType
table_import (imports.Table t limits) = Some (table t limits)
table_import _ = None

abbrev pub memory_import : ImportDesc → Option ExternType
memory_import (imports.Memory limits) = Some (memory limits)
memory_import _ = None

abbrev pub global_import : ImportDesc → Option ExternType
global_import (imports.Global t mutable) = Some (global t mutable)
global_import _ = None

abbrev pub tag_import : ImportDesc → Option ℕ
tag_import (imports.Tag t) = Some t
tag_import _ = None

-- the index spaces, the imports of a kind first: the types of the tables, memories and globals, and the type index of each
-- tag
abbrev pub all_tables : Module → List ExternType
all_tables m = filter_map (λ i. table_import i.desc) m.imports ++ map (λ t. table t.ty t.limits) m.tables

abbrev pub all_memories : Module → List ExternType
all_memories m = filter_map (λ i. memory_import i.desc) m.imports ++ map (λ limits. memory limits) m.memories

abbrev pub all_globals : Module → List ExternType
all_globals m = filter_map (λ i. global_import i.desc) m.imports ++ map (λ g. global g.ty g.mutable) m.globals

abbrev pub tag_indices : Module → List ℕ
tag_indices m = filter_map (λ i. tag_import i.desc) m.imports ++ m.tags

abbrev pub export_type : Module → ExportDesc → Option ExternType
export_type m (exports.Func x) = option_and_then (typed_func m) (slice_get (func_indices m) x)
export_type m (exports.Table x) = slice_get (all_tables m) x
export_type m (exports.Memory x) = slice_get (all_memories m) x
export_type m (exports.Global x) = slice_get (all_globals m) x
export_type m (exports.Tag x) = option_and_then (typed_tag m) (slice_get (tag_indices m) x)

-- the interface of a module
abbrev pub interface : Module → Interface
interface m = record {
  imports = map (λ i. record { from = i.module; name = i.name; type = import_type m i.desc }) m.imports;
  exports = map (λ e. record { name = e.name; type = export_type m e.desc }) m.exports;
  tags = map (slice_get m.types) (tag_indices m);
}
