-- When a module has a feature: the profile's own table, a row each. Code that cannot be reached is included, and an
-- index that is out of range makes nothing true by itself.
use Rattle.std.specs.Prelude.{ℕ, Bool, true, false, not, ◌||◌, ◌&&◌, List, [], ◌∷◌, length, nat_eq, nat_lt, nat_le, slice_get, Option, Some, None}
use Rattle.std.specs.List.{list_any}
use Rattle.wasm_ast.specs.declared.module.ty.Ty.{Ty}
use Rattle.wasm_ast.specs.declared.module.ty.FuncType.{FuncType}
use Rattle.wasm_ast.specs.declared.module.op.Op.{Op}
use Rattle.wasm_ast.specs.declared.module.op.Op.TheVariants as ops
use Rattle.wasm_ast.specs.declared.module.code.Instr.{Instr}
use Rattle.wasm_ast.specs.declared.module.code.Instr.TheOpen.{Instr-F}
use Rattle.wasm_ast.specs.declared.module.parts.ImportDesc.{ImportDesc}
use Rattle.wasm_ast.specs.declared.module.parts.ImportDesc.TheVariants as imports
use Rattle.wasm_ast.specs.declared.module.parts.ExportDesc.{ExportDesc}
use Rattle.wasm_ast.specs.declared.module.parts.ExportDesc.TheVariants as exports
use Rattle.wasm_ast.specs.declared.module.parts.Mode.{Mode}
use Rattle.wasm_ast.specs.declared.module.parts.Mode.TheVariants.{Active, Passive}
use Rattle.wasm_ast.specs.declared.module.parts.Module.{Module}
use Rattle.wasm_ast.specs.declared.features.kind.Feature.{Feature}
use Rattle.wasm_ast.specs.declared.features.kind.Feature.TheVariants as features
use Rattle.wasm_ast.specs.declared.features.imports.ImportTest.{ImportTest}
use Rattle.wasm_ast.specs.declared.features.imports.ImportTest.TheVariants as tests
use Rattle.wasm_ast.specs.Occurrence.{Head, head_of}
use Rattle.wasm_ast.specs.Features.{is_vector, is_reference, shows}
use Rattle.wasm_ast.specs.Places.{anywhere, outside_elements, func_type_shows, global_import_shows, table_import_shows, declares, holds}
use Rattle.wasm_ast.specs.Spaces.{is_table, is_memory, is_global, is_tag, func_indices, global_types, imported, table_count, memory_count}
use Rattle.wasm_ast.specs.Kept.{keeps_table}

-- tables and memories with 64-bit addresses
abbrev pub is_wide_table : ImportDesc → Bool
is_wide_table (imports.Table t limits) = limits.wide
is_wide_table _ = false

abbrev pub is_wide_memory : ImportDesc → Bool
is_wide_memory (imports.Memory limits) = limits.wide
is_wide_memory _ = false

-- mutable globals, and globals of a type that 1.0 lacks
abbrev pub is_mutable_global : ImportDesc → Bool
is_mutable_global (imports.Global t mutable) = mutable
is_mutable_global _ = false

abbrev pub is_wide_type : Ty → Bool
is_wide_type t = is_vector t || is_reference t

abbrev pub is_wide_global : ImportDesc → Bool
is_wide_global (imports.Global t mutable) = is_wide_type t
is_wide_global _ = false

-- what is asked of an import
abbrev pub import_passes : ImportTest → ImportDesc → Bool
import_passes tests.Table d = is_table d
import_passes tests.Memory d = is_memory d
import_passes tests.Tag d = is_tag d
import_passes tests.MutableGlobal d = is_mutable_global d
import_passes tests.WideTable d = is_wide_table d
import_passes tests.WideMemory d = is_wide_memory d
import_passes tests.WideGlobal d = is_wide_global d
import_passes (tests.GlobalShows f) d = global_import_shows f d
import_passes (tests.TableShows f) d = table_import_shows f d

-- an import that passes a test
abbrev pub imports_some : (ImportDesc → Bool) → Module → Bool
imports_some kind m = list_any (λ i. kind i.desc) m.imports

-- one ref.null or one ref.func
abbrev pub makes_reference : Head → Bool
makes_reference (Instr-F.Pure (ops.RefNull t)) = true
makes_reference (Instr-F.Pure (ops.RefFunc f)) = true
makes_reference _ = false

abbrev pub is_one_reference : List Instr → Bool
is_one_reference (i ∷ []) = makes_reference (head_of i)
is_one_reference _ = false

abbrev pub has_initialiser : Option (List Instr) → Bool
has_initialiser (Some code) = not (is_one_reference code)
has_initialiser None = false

abbrev pub is_wide_at : Option Ty → Bool
is_wide_at (Some t) = is_wide_type t
is_wide_at None = false

abbrev pub exports_wide_global : List Ty → ExportDesc → Bool
exports_wide_global types (exports.Global x) = is_wide_at (slice_get types x)
exports_wide_global types _ = false

-- one of so many tables
abbrev pub is_exported_table : ℕ → ExportDesc → Bool
is_exported_table count (exports.Table x) = nat_lt x count
is_exported_table count _ = false

-- exnref in the function type with an index
abbrev pub names_exnref : Option FuncType → Bool
names_exnref (Some t) = func_type_shows features.Exceptions t
names_exnref None = false

abbrev pub is_exnref_type : Module → ℕ → Bool
is_exnref_type m t = names_exnref (slice_get m.types t)

-- the function type of an import, of a tag of the module or of an exported function has an index that passes a test
abbrev pub imports_type : (ℕ → Bool) → ImportDesc → Bool
imports_type p (imports.Func t) = p t
imports_type p (imports.Tag t) = p t
imports_type p _ = false

abbrev pub passes_at : (ℕ → Bool) → Option ℕ → Bool
passes_at p (Some t) = p t
passes_at p None = false

abbrev pub exports_type : (ℕ → Bool) → List ℕ → ExportDesc → Bool
exports_type p indices (exports.Func x) = passes_at p (slice_get indices x)
exports_type p indices _ = false

abbrev pub meets_type : (ℕ → Bool) → Module → Bool
meets_type p m =
    imports_some (imports_type p) m || list_any p m.tags || list_any (λ e. exports_type p (func_indices m) e.desc) m.exports

-- one constant, or one of so many imported globals
abbrev pub is_constant_op : Op → Bool
is_constant_op (ops.I32Const n) = true
is_constant_op (ops.I64Const n) = true
is_constant_op (ops.V128Const v) = true
is_constant_op (ops.RefNull t) = true
is_constant_op (ops.RefFunc f) = true
is_constant_op _ = false

abbrev pub is_simple : ℕ → Head → Bool
is_simple count (Instr-F.Pure op) = is_constant_op op
is_simple count (Instr-F.GlobalGet x) = nat_lt x count
is_simple count _ = false

abbrev pub is_one_simple : ℕ → List Instr → Bool
is_one_simple count (i ∷ []) = is_simple count (head_of i)
is_one_simple count _ = false

abbrev pub has_simple_offset : ℕ → Mode → Bool
has_simple_offset count (Active x offset) = is_one_simple count offset
has_simple_offset count _ = true

abbrev pub has_several_results : FuncType → Bool
has_several_results t = nat_le 2 (length t.results)

abbrev pub is_passive : Mode → Bool
is_passive Passive = true
is_passive _ = false

-- the table
abbrev pub has_of : Module → Feature → Bool
has_of m features.Floats = declares features.Floats m || holds features.Floats m || anywhere (shows features.Floats) m
has_of m features.WideTable = imports_some is_wide_table m || list_any (λ t. t.limits.wide) m.tables
has_of m features.TableInitialiser = list_any (λ t. has_initialiser t.init) m.tables
has_of m features.ImportedTable = imports_some is_table m
has_of m features.ImportedTag = imports_some is_tag m
has_of m features.ImportedMutableGlobal = imports_some is_mutable_global m
has_of m features.ImportedMemory = imports_some is_memory m
has_of m features.ExportedTable = list_any (λ e. is_exported_table (table_count m) e.desc) m.exports
has_of m features.WideGlobal = imports_some is_wide_global m || list_any (λ e. exports_wide_global (global_types m) e.desc) m.exports
has_of m features.ExnrefTable = holds features.Exceptions m
has_of m features.HostExnref = meets_type (is_exnref_type m) m
has_of m features.Sign = anywhere (shows features.Sign) m
has_of m features.Constants =
    list_any (λ g. not (is_one_simple (imported is_global m) g.init)) m.globals
    || list_any (λ e. not (has_simple_offset (imported is_global m) e.mode)) m.elems
    || list_any (λ s. not (has_simple_offset (imported is_global m) s.mode)) m.datas
has_of m features.Multi = list_any has_several_results m.types || anywhere (shows features.Multi) m
has_of m features.TypedSelect = anywhere (shows features.TypedSelect) m
has_of m features.Simd = declares features.Simd m || holds features.Simd m || anywhere (shows features.Simd) m
has_of m features.LateLanes = anywhere (shows features.LateLanes) m
has_of m features.Tail = anywhere (shows features.Tail) m
has_of m features.Refs = declares features.Refs m || outside_elements (shows features.Refs) m
has_of m features.Tables = anywhere (shows features.Tables) m || (not (nat_eq (table_count m) 0) && not (keeps_table m))
has_of m features.Exceptions =
    not (nat_eq (length m.tags) 0)
    || imports_some is_tag m
    || declares features.Exceptions m
    || holds features.Exceptions m
    || anywhere (shows features.Exceptions) m
has_of m features.Bulk = list_any (λ s. is_passive s.mode) m.datas || anywhere (shows features.Bulk) m
has_of m features.WideMemory = imports_some is_wide_memory m || list_any (λ l. l.wide) m.memories
has_of m features.Memories = nat_le 2 (memory_count m)
