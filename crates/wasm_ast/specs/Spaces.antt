-- The index spaces of a module: the imports of a kind come first ("Modules", "Indices").
use Rattle.std.specs.Prelude.{ℕ, ◌+◌, Bool, true, false, List, ◌++◌, map, length, filter_map, count_by, Option, Some, None}
use Rattle.wasm_ast.specs.declared.module.ty.Ty.{Ty}
use Rattle.wasm_ast.specs.declared.module.parts.ImportDesc.{ImportDesc}
use Rattle.wasm_ast.specs.declared.module.parts.ImportDesc.TheVariants.{Func, Table, Memory, Global, Tag}
use Rattle.wasm_ast.specs.declared.module.parts.Module.{Module}

-- the type index of an imported function, and the type of an imported global
abbrev pub func_import : ImportDesc → Option ℕ
func_import (Func t) = Some t
func_import _ = None

abbrev pub global_import : ImportDesc → Option Ty
global_import (Global t mutable) = Some t
global_import _ = None

-- the kinds of imports
abbrev pub is_func : ImportDesc → Bool
is_func (Func t) = true
is_func _ = false

abbrev pub is_table : ImportDesc → Bool
is_table (Table t limits) = true
is_table _ = false

abbrev pub is_memory : ImportDesc → Bool
is_memory (Memory limits) = true
is_memory _ = false

abbrev pub is_global : ImportDesc → Bool
is_global (Global t mutable) = true
is_global _ = false

abbrev pub is_tag : ImportDesc → Bool
is_tag (Tag t) = true
is_tag _ = false

-- the type index of each function, and the type of each global
abbrev pub func_indices : Module → List ℕ
func_indices m = filter_map (λ i. func_import i.desc) m.imports ++ m.funcs

abbrev pub global_types : Module → List Ty
global_types m = filter_map (λ i. global_import i.desc) m.imports ++ map (λ g. g.ty) m.globals

-- how many imports are of a kind
abbrev pub imported : (ImportDesc → Bool) → Module → ℕ
imported kind m = count_by (λ i. kind i.desc) m.imports

-- how many functions, tables and memories there are
abbrev pub func_count : Module → ℕ
func_count m = imported is_func m + length m.funcs

abbrev pub table_count : Module → ℕ
table_count m = imported is_table m + length m.tables

abbrev pub memory_count : Module → ℕ
memory_count m = imported is_memory m + length m.memories
