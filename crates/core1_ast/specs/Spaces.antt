-- The index spaces of a module of 1.0: the imports of a kind come first ("Modules", "Indices").
use Rattle.std.specs.Prelude.{ℕ, Bool, List, ◌++◌, map, filter_map, Option, Some, None}
use Rattle.core1_ast.specs.declared.module.ty.Ty1.{Ty1}
use Rattle.core1_ast.specs.declared.module.ty.Limits1.{Limits1}
use Rattle.core1_ast.specs.declared.module.parts.ImportDesc1.{ImportDesc1}
use Rattle.core1_ast.specs.declared.module.parts.ImportDesc1.TheVariants.{Func, Table, Memory, Global}
use Rattle.core1_ast.specs.declared.module.parts.Module1.{Module1}

-- "Global Types": the type of the value, and whether it can be changed
pub record GlobalType : Type 0 where
  pub type : Ty1
  pub mutable : Bool

-- what an import adds to each space
abbrev pub func_import : ImportDesc1 → Option ℕ
func_import (Func t) = Some t
func_import _ = None

abbrev pub table_import : ImportDesc1 → Option Limits1
table_import (Table limits) = Some limits
table_import _ = None

abbrev pub memory_import : ImportDesc1 → Option Limits1
memory_import (Memory limits) = Some limits
memory_import _ = None

abbrev pub global_import : ImportDesc1 → Option GlobalType
global_import (Global t mutable) = Some (record { type = t; mutable = mutable })
global_import _ = None

-- the index of the type of each function
abbrev pub func_indices : Module1 → List ℕ
func_indices m = filter_map (λ i. func_import i.desc) m.imports ++ m.funcs

-- the sizes of the tables and of the memories
abbrev pub all_tables : Module1 → List Limits1
all_tables m = filter_map (λ i. table_import i.desc) m.imports ++ m.tables

abbrev pub all_memories : Module1 → List Limits1
all_memories m = filter_map (λ i. memory_import i.desc) m.imports ++ m.memories

-- the types of the imported globals, and of all
abbrev pub imported_globals : Module1 → List GlobalType
imported_globals m = filter_map (λ i. global_import i.desc) m.imports

abbrev pub all_globals : Module1 → List GlobalType
all_globals m = imported_globals m ++ map (λ g. record { type = g.ty; mutable = g.mutable }) m.globals
