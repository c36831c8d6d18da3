-- What a host links a module of 1.0 by: its imports and exports in order, each with its names and its external type
-- ("External Types" of chapter 2 of 1.0; "Modules" of chapter 3).
use Rattle.std.specs.Prelude.{ℕ, Bool, List, map, slice_get, Option, Some, option_map, option_and_then}
use Rattle.core1_ast.specs.Spaces.{func_indices, all_tables, all_memories, all_globals}
use Rattle.core1_ast.specs.declared.module.ty.FuncType1.{FuncType1}
use Rattle.core1_ast.specs.declared.module.ty.Limits1.{Limits1}
use Rattle.core1_ast.specs.declared.module.ty.Ty1.{Ty1}
use Rattle.core1_ast.specs.declared.module.parts.ExportDesc1.{ExportDesc1}
use Rattle.core1_ast.specs.declared.module.parts.ExportDesc1.TheVariants as exports
use Rattle.core1_ast.specs.declared.module.parts.ImportDesc1.{ImportDesc1}
use Rattle.core1_ast.specs.declared.module.parts.ImportDesc1.TheVariants as imports
use Rattle.core1_ast.specs.declared.module.parts.Module1.{Module1}

-- "External Types": the kind of what is linked, and its type. A global's type says whether it can be changed
pub data ExternType1 : Type 0 where
  func : FuncType1 → ExternType1
  table : Limits1 → ExternType1
  memory : Limits1 → ExternType1
  global : Ty1 → Bool → ExternType1

-- An import by its two names, and an export by its name. One whose index names nothing has no type; no typed module
-- has such a one
pub record Imported1 : Type 0 where
  pub from : List ℕ
  pub name : List ℕ
  pub type : Option ExternType1

pub record Exported1 : Type 0 where
  pub name : List ℕ
  pub type : Option ExternType1

-- the imports and the exports, each in its order
pub record Interface1 : Type 0 where
  pub imports : List Imported1
  pub exports : List Exported1

-- the function type with this index
abbrev pub typed_func : Module1 → ℕ → Option ExternType1
typed_func m t = option_map (λ type. func type) (slice_get m.types t)

abbrev pub import_type : Module1 → ImportDesc1 → Option ExternType1
import_type m (imports.Func t) = typed_func m t
import_type m (imports.Table limits) = Some (table limits)
import_type m (imports.Memory limits) = Some (memory limits)
import_type m (imports.Global t mutable) = Some (global t mutable)

abbrev pub export_type : Module1 → ExportDesc1 → Option ExternType1
export_type m (exports.Func x) = option_and_then (typed_func m) (slice_get (func_indices m) x)
export_type m (exports.Table x) = option_map (λ limits. table limits) (slice_get (all_tables m) x)
export_type m (exports.Memory x) = option_map (λ limits. memory limits) (slice_get (all_memories m) x)
export_type m (exports.Global x) = option_map (λ g. global g.type g.mutable) (slice_get (all_globals m) x)

-- the interface of a module
abbrev pub interface1 : Module1 → Interface1
interface1 m = record {
  imports = map (λ i. record { from = i.module; name = i.name; type = import_type m i.desc }) m.imports;
  exports = map (λ e. record { name = e.name; type = export_type m e.desc }) m.exports;
}
