-- When each part of a module of 3.0 is typed by itself (chapter 3 of the standard, "Modules"), and the order of the parts:
-- that of their sections in the binary format, and in a section that of their places.
use Rattle.std.specs.Prelude.{◌≡◌, ◌≢◌, ℕ, ◌<◌, List, ◌++◌, length, map, take, Some, IfSome, slice_get}
use Rattle.wasm_ast.specs.declared.module.parts.Export.{Export}
use Rattle.wasm_ast.specs.declared.module.parts.Module.{Module}
use Rattle.typed_trees.specs.declared.global_type.GlobalType.{GlobalType}
use Rattle.typed_trees.specs.Modules.{global_import, global_type, imported_of, TypedFuncType, TypedImport, TypedTable, TypedMemory, TypedTag, TypedGlobal, TypedDesc, TypedStart, TypedElement, TypedSegment, TypedFunc}

-- the sections with parts that are typed, the bodies aside
pub data Section : Type 0 where
  Types Imports Functions Tables Memories Tags Globals Exports Start Elements Segments : Section

-- the id of each in the binary format
abbrev pub id : Section → ℕ
id Types = 1
id Imports = 2
id Functions = 3
id Tables = 4
id Memories = 5
id Tags = 13
id Globals = 6
id Exports = 7
id Start = 8
id Elements = 9
id Segments = 11

-- the place of each in the order of sections: that of tags is between those of memories and globals
abbrev pub order : Section → ℕ
order Types = 0
order Imports = 1
order Functions = 2
order Tables = 3
order Memories = 4
order Tags = 5
order Globals = 6
order Exports = 7
order Start = 8
order Elements = 9
order Segments = 10

-- how many parts a section has
abbrev pub count : Module → Section → ℕ
count m Types = length m.types
count m Imports = length m.imports
count m Functions = length m.funcs
count m Tables = length m.tables
count m Memories = length m.memories
count m Tags = length m.tags
count m Globals = length m.globals
count m Exports = length m.exports
count m Start = 1
count m Elements = length m.elems
count m Segments = length m.datas

-- the globals that the global at a place may name
abbrev pub globals_before : Module → ℕ → List GlobalType
globals_before m k = imported_of global_import m ++ map global_type (take k m.globals)

-- no export at an earlier place has the name
abbrev pub IsNew : List Export → ℕ → Export → Type 0
IsNew all k e = (j : ℕ) (other : Export) → j < k → slice_get all j ≡ Some other → other.name ≢ e.name

-- the part at the place of the section is typed
abbrev pub PartTyped : Module → Section → ℕ → Type 0
PartTyped m Types k = IfSome (slice_get m.types k) TypedFuncType
PartTyped m Imports k = IfSome (slice_get m.imports k) (λ i. TypedImport m i.desc)
PartTyped m Functions k = IfSome (slice_get m.funcs k) (λ t. t < length m.types)
PartTyped m Tables k = IfSome (slice_get m.tables k) (TypedTable m)
PartTyped m Memories k = IfSome (slice_get m.memories k) TypedMemory
PartTyped m Tags k = IfSome (slice_get m.tags k) (TypedTag m)
PartTyped m Globals k = IfSome (slice_get m.globals k) (TypedGlobal m (globals_before m k))
PartTyped m Exports k = IfSome (slice_get m.exports k) (λ e. TypedDesc m e.desc × IsNew m.exports k e)
PartTyped m Start k = TypedStart m m.start
PartTyped m Elements k = IfSome (slice_get m.elems k) (TypedElement m)
PartTyped m Segments k = IfSome (slice_get m.datas k) (TypedSegment m)

-- the body at the place is typed, by the type of its function
abbrev pub BodyTyped : Module → ℕ → Type 0
BodyTyped m f = IfSome (slice_get m.funcs f) (λ t. IfSome (slice_get m.codes f) (TypedFunc m t))
