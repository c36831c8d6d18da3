-- When each part of a module of 1.0 is typed by itself ("Modules" of chapter 3), and the order of the parts: that of
-- their sections, and in a section that of their places.
use Rattle.std.specs.Prelude.{◌≡◌, ◌≢◌, ℕ, ◌<◌, ◌+◌, List, length, take, filter_map, Some, IfSome, slice_get}
use Rattle.core1_ast.specs.declared.module.parts.ImportDesc1.{ImportDesc1}
use Rattle.core1_ast.specs.declared.module.parts.ImportDesc1.TheVariants as imports
use Rattle.core1_ast.specs.declared.module.parts.Import1.{Import1}
use Rattle.core1_ast.specs.declared.module.parts.Export1.{Export1}
use Rattle.core1_ast.specs.declared.module.parts.Module1.{Module1}
use Rattle.core1_ast.specs.Spaces.{table_import, memory_import}
use Rattle.core1_ast.specs.Typing.{TypedFuncType, TypedImport, TypedTable, TypedMemory, TypedGlobal, TypedDesc, TypedStart, TypedElement, TypedSegment, TypedFunc}

-- the sections with parts that are typed, the bodies aside
pub data Section : Type 0 where
  Types Imports Functions Tables Memories Globals Exports Start Elements Segments : Section

-- the id of each, which is its place in the order too
abbrev pub id : Section → ℕ
id Types = 1
id Imports = 2
id Functions = 3
id Tables = 4
id Memories = 5
id Globals = 6
id Exports = 7
id Start = 8
id Elements = 9
id Segments = 11

-- how many entries of a kind the imports add to an index space
abbrev pub tables_in : List Import1 → ℕ
tables_in imports = length (filter_map (λ i. table_import i.desc) imports)

abbrev pub memories_in : List Import1 → ℕ
memories_in imports = length (filter_map (λ i. memory_import i.desc) imports)

-- a table and a memory are the first of their index spaces, in which imports come first
abbrev pub IsFirst : List Import1 → ImportDesc1 → Type 0
IsFirst before (imports.Func t) = Unit {0}
IsFirst before (imports.Table l) = tables_in before ≡ 0
IsFirst before (imports.Memory l) = memories_in before ≡ 0
IsFirst before (imports.Global t mutable) = Unit {0}

-- no export at an earlier place has the name
abbrev pub IsNew : List Export1 → ℕ → Export1 → Type 0
IsNew all k e = (j : ℕ) (other : Export1) → j < k → slice_get all j ≡ Some other → other.name ≢ e.name

-- how many parts a section has
abbrev pub count : Module1 → Section → ℕ
count m Types = length m.types
count m Imports = length m.imports
count m Functions = length m.funcs
count m Tables = length m.tables
count m Memories = length m.memories
count m Globals = length m.globals
count m Exports = length m.exports
count m Start = 1
count m Elements = length m.elems
count m Segments = length m.datas

-- the part at the place of the section is typed
abbrev pub PartTyped : Module1 → Section → ℕ → Type 0
PartTyped m Types k = IfSome (slice_get m.types k) TypedFuncType
PartTyped m Imports k = IfSome (slice_get m.imports k) (λ i. TypedImport m i.desc × IsFirst (take k m.imports) i.desc)
PartTyped m Functions k = IfSome (slice_get m.funcs k) (λ t. t < length m.types)
PartTyped m Tables k = IfSome (slice_get m.tables k) (λ l. TypedTable l × (tables_in m.imports + k ≡ 0))
PartTyped m Memories k = IfSome (slice_get m.memories k) (λ l. TypedMemory l × (memories_in m.imports + k ≡ 0))
PartTyped m Globals k = IfSome (slice_get m.globals k) (TypedGlobal m)
PartTyped m Exports k = IfSome (slice_get m.exports k) (λ e. TypedDesc m e.desc × IsNew m.exports k e)
PartTyped m Start k = TypedStart m m.start
PartTyped m Elements k = IfSome (slice_get m.elems k) (TypedElement m)
PartTyped m Segments k = IfSome (slice_get m.datas k) (TypedSegment m)

-- the body at the place is typed, by the type of its function
abbrev pub BodyTyped : Module1 → ℕ → Type 0
BodyTyped m f = IfSome (slice_get m.funcs f) (λ t. IfSome (slice_get m.codes f) (TypedFunc m t))
