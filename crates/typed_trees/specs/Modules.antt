-- When a module of 3.0 is typed: chapter 3 of the standard, "Types" and "Modules", by rules, a rule for each kind of part.
use Rattle.std.specs.Prelude.{◌≡◌, ◌≢◌, ℕ, ◌<◌, ◌≤◌, ◌-◌, ◌^◌, Bool, true, false, List, [], ◌∷◌, ◌++◌, length, map, filter_map, replicate, unwrap_or, Option, Some, None, slice_get, option_and_then, AllPairs}
use Rattle.std.specs.List.{AllByRecursion, flat_map}
use Rattle.wasm_ast.specs.declared.module.ty.Ty.{Ty}
use Rattle.wasm_ast.specs.declared.module.ty.Ty.TheVariants.{I32}
use Rattle.wasm_ast.specs.declared.module.ty.FuncType.{FuncType}
use Rattle.wasm_ast.specs.declared.module.ty.Limits.{Limits}
use Rattle.wasm_ast.specs.declared.module.op.Op.TheVariants as ops
use Rattle.wasm_ast.specs.declared.module.code.Instr.{Instr}
use Rattle.wasm_ast.specs.declared.module.code.Instr.TheOpen.{Instr-F}
use Rattle.wasm_ast.specs.declared.module.code.Body.{Body}
use Rattle.wasm_ast.specs.declared.module.parts.ImportDesc.{ImportDesc}
use Rattle.wasm_ast.specs.declared.module.parts.ImportDesc.TheVariants as imports
use Rattle.wasm_ast.specs.declared.module.parts.Table.{Table}
use Rattle.wasm_ast.specs.declared.module.parts.Global.{Global}
use Rattle.wasm_ast.specs.declared.module.parts.ExportDesc.{ExportDesc}
use Rattle.wasm_ast.specs.declared.module.parts.ExportDesc.TheVariants as exports
use Rattle.wasm_ast.specs.declared.module.parts.Mode.{Mode}
use Rattle.wasm_ast.specs.declared.module.parts.Mode.TheVariants.{Active, Passive, Declarative}
use Rattle.wasm_ast.specs.declared.module.parts.Element.{Element}
use Rattle.wasm_ast.specs.declared.module.parts.Segment.{Segment}
use Rattle.wasm_ast.specs.declared.module.parts.Module.{Module}
use Rattle.wasm_ast.specs.Counts.{Agrees}
use Rattle.wasm_ast.specs.Marking.{marked}
use Rattle.wasm_ast.specs.Occurrence.{Head, head_of}
use Rattle.wasm_ast.specs.Spaces.{func_indices}
use Rattle.typing_kit.specs.Matching.{known}
use Rattle.typing_kit.specs.Typing.{TypedCode}
use Rattle.typed_trees.specs.Contexts.{Context, func_type, is_value_type, is_reference_type, address_type}
use Rattle.typed_trees.specs.declared.global_type.GlobalType.{GlobalType}
use Rattle.typed_trees.specs.Matching.{matches}
use Rattle.typed_trees.specs.Forms.{language}
use Rattle.typed_trees.specs.Constants.{TypedConstant}

-- "Indices": what is imported of a kind comes first
abbrev pub table_import : ImportDesc → Option Ty
table_import (imports.Table t limits) = Some t
table_import _ = None

abbrev pub memory_import : ImportDesc → Option Limits
memory_import (imports.Memory limits) = Some limits
memory_import _ = None

abbrev pub global_import : ImportDesc → Option GlobalType
global_import (imports.Global t mutable) = Some (record { ty = t; mutable = mutable })
global_import _ = None

abbrev pub tag_import : ImportDesc → Option ℕ
tag_import (imports.Tag t) = Some t
tag_import _ = None

abbrev pub imported_of : {X : Type 0} → (ImportDesc → Option X) → Module → List X
imported_of kind m = filter_map (λ i. kind i.desc) m.imports

abbrev pub all_tables : Module → List Ty
all_tables m = imported_of table_import m ++ map (λ t. t.ty) m.tables

abbrev pub all_memories : Module → List Limits
all_memories m = imported_of memory_import m ++ m.memories

abbrev pub all_tags : Module → List ℕ
all_tags m = imported_of tag_import m ++ m.tags

abbrev pub global_type : Global → GlobalType
global_type g = record { ty = g.ty; mutable = g.mutable }

abbrev pub all_globals : Module → List GlobalType
all_globals m = imported_of global_import m ++ map global_type m.globals

-- "Modules": the functions that occur outside the bodies of functions and the start function. A constant expression
-- holds no code, so what stands deeper in one need not be looked for
abbrev pub func_named : Head → List ℕ
func_named (Instr-F.Pure (ops.RefFunc x)) = x ∷ []
func_named _ = []

abbrev pub named_in : List Instr → List ℕ
named_in = flat_map (λ i. func_named (head_of i))

abbrev pub named_in_offset : Mode → List ℕ
named_in_offset (Active x offset) = named_in offset
named_in_offset _ = []

abbrev pub named_in_element : Element → List ℕ
named_in_element e = named_in_offset e.mode ++ flat_map named_in e.items

abbrev pub func_exported : ExportDesc → List ℕ
func_exported (exports.Func x) = x ∷ []
func_exported _ = []

abbrev pub named_outside : Module → List ℕ
named_outside m =
    flat_map (λ t. named_in (unwrap_or t.init [])) m.tables
    ++ flat_map (λ g. named_in g.init) m.globals
    ++ flat_map (λ e. func_exported e.desc) m.exports
    ++ flat_map named_in_element m.elems
    ++ flat_map (λ s. named_in_offset s.mode) m.datas

abbrev pub refs_of : Module → List Bool
refs_of m = marked (named_outside m) (replicate (length (func_indices m)) false)

-- "Modules": the context of the module, outside its functions
abbrev pub context : Module → Context
context m = record {
  types = m.types;
  funcs = func_indices m;
  tags = all_tags m;
  tables = all_tables m;
  elems = map (λ e. e.ty) m.elems;
  memories = all_memories m;
  datas = length m.datas;
  globals = all_globals m;
  refs = refs_of m;
  locals = [];
  returns = None;
}

-- "Modules": the context of tables and globals, in which only types, functions and these globals have a name
abbrev pub early_context : Module → List GlobalType → Context
early_context m globals = record {
  types = m.types;
  funcs = func_indices m;
  tags = [];
  tables = [];
  elems = [];
  memories = [];
  datas = 0;
  globals = globals;
  refs = refs_of m;
  locals = [];
  returns = None;
}

-- "Functions": the context of a body
abbrev pub body_context : Module → FuncType → Body → Context
body_context m t body = record (context m) { locals = t.params ++ body.locals; returns = Some t.results }

-- "Function Types": there is no rule for a float
pub record TypedFuncType (t : FuncType) : Type 0 where
  pub params : AllByRecursion (λ s. is_value_type s ≡ true) t.params
  pub results : AllByRecursion (λ s. is_value_type s ≡ true) t.results

-- "Limits": no size is beyond the bound, and the greatest is not below the least
abbrev pub IsGreatest : ℕ → ℕ → Option ℕ → Type 0
IsGreatest bound least None = Unit {0}
IsGreatest bound least (Some greatest) = (greatest ≤ bound) × (least ≤ greatest)

pub record TypedLimits (bound : ℕ) (l : Limits) : Type 0 where
  pub least : l.min ≤ bound
  pub greatest : IsGreatest bound l.min l.max

-- "Memory Types": 2^16 pages, and 2^48 where addresses have 64 bits
abbrev pub page_bound : Bool → ℕ
page_bound true = 2 ^ 48
page_bound false = 2 ^ 16

abbrev pub TypedMemory : Limits → Type 0
TypedMemory l = TypedLimits (page_bound l.wide) l

-- "Table Types": there is no rule for a table with 64-bit addresses
pub record TypedTableType (t : Ty) (l : Limits) : Type 0 where
  pub narrow : l.wide ≡ false
  pub limits : TypedLimits (2 ^ 32 - 1) l
  pub type : is_reference_type t ≡ true

-- "Tag Types": in this profile a tag has no results
pub record TypedTag (m : Module) (type_index : ℕ) : Type 0 where
  pub type : FuncType
  pub declared : slice_get m.types type_index ≡ Some type
  pub results : type.results ≡ []

-- "Imports"
abbrev pub TypedImport : Module → ImportDesc → Type 0
TypedImport m (imports.Func t) = t < length m.types
TypedImport m (imports.Table t l) = TypedTableType t l
TypedImport m (imports.Memory l) = TypedMemory l
TypedImport m (imports.Global t mutable) = is_value_type t ≡ true
TypedImport m (imports.Tag t) = TypedTag m t

-- "Tables"
abbrev pub TypedInitialiser : Module → Ty → Option (List Instr) → Type 0
TypedInitialiser m t None = Unit {0}
TypedInitialiser m t (Some code) = TypedConstant (early_context m (imported_of global_import m)) code t

pub record TypedTable (m : Module) (t : Table) : Type 0 where
  pub type : TypedTableType t.ty t.limits
  pub init : TypedInitialiser m t.ty t.init

-- "Globals": each over the globals before it
pub record TypedGlobal (m : Module) (before : List GlobalType) (g : Global) : Type 0 where
  pub type : is_value_type g.ty ≡ true
  pub init : TypedConstant (early_context m before) g.init g.ty

abbrev pub TypedGlobals : Module → List GlobalType → List Global → Type 0
TypedGlobals m before [] = Unit {0}
TypedGlobals m before (g ∷ more) = TypedGlobal m before g × TypedGlobals m (before ++ global_type g ∷ []) more

-- "Exports": the index is in range
abbrev pub TypedDesc : Module → ExportDesc → Type 0
TypedDesc m (exports.Func x) = x < length (func_indices m)
TypedDesc m (exports.Table x) = x < length (all_tables m)
TypedDesc m (exports.Memory x) = x < length (all_memories m)
TypedDesc m (exports.Global x) = x < length (all_globals m)
TypedDesc m (exports.Tag x) = x < length (all_tags m)

-- "Start Function": it takes nothing and gives nothing
pub record TypedStartFunc (m : Module) (x : ℕ) : Type 0 where
  pub type : FuncType
  pub declared : func_type (context m) x ≡ Some type
  pub params : type.params ≡ []
  pub results : type.results ≡ []

abbrev pub TypedStart : Module → Option ℕ → Type 0
TypedStart m None = Unit {0}
TypedStart m (Some x) = TypedStartFunc m x

-- "Element Segments"
pub record TypedTarget (m : Module) (table : ℕ) (code : List Instr) (t : Ty) : Type 0 where
  pub type : Ty
  pub declared : slice_get (all_tables m) table ≡ Some type
  pub serves : matches t type ≡ true
  pub offset : TypedConstant (context m) code I32

abbrev pub TypedElementMode : Module → Ty → Mode → Type 0
TypedElementMode m t (Active table offset) = TypedTarget m table offset t
TypedElementMode m t Passive = Unit {0}
TypedElementMode m t Declarative = Unit {0}

pub record TypedElement (m : Module) (e : Element) : Type 0 where
  pub type : is_reference_type e.ty ≡ true
  pub items : AllByRecursion (λ code. TypedConstant (context m) code e.ty) e.items
  pub mode : TypedElementMode m e.ty e.mode

-- "Data Segments": the offset is an address of the memory. None is declarative
pub record TypedAddress (m : Module) (memory : ℕ) (code : List Instr) : Type 0 where
  pub limits : Limits
  pub declared : slice_get (all_memories m) memory ≡ Some limits
  pub offset : TypedConstant (context m) code (address_type limits)

abbrev pub TypedSegmentMode : Module → Mode → Type 0
TypedSegmentMode m (Active memory offset) = TypedAddress m memory offset
TypedSegmentMode m Passive = Unit {0}
TypedSegmentMode m Declarative = ⊥

abbrev pub TypedSegment : Module → Segment → Type 0
TypedSegment m s = TypedSegmentMode m s.mode

-- "Functions": over the parameters and the declared locals the code leaves the results and nothing else
pub record TypedBody (m : Module) (t : FuncType) (body : Body) : Type 0 where
  pub locals : AllByRecursion (λ s. is_value_type s ≡ true) body.locals
  pub code : TypedCode (language (body_context m t body)) (t.results ∷ []) body.code [] (known t.results)

pub record TypedFunc (m : Module) (type_index : ℕ) (body : Body) : Type 0 where
  pub type : FuncType
  pub declared : slice_get m.types type_index ≡ Some type
  pub typed : TypedBody m type body

-- each function with the body at its place; there are as many of both
abbrev pub TypedFuncs : Module → List ℕ → List Body → Type 0
TypedFuncs m [] [] = Unit {0}
TypedFuncs m [] (body ∷ bodies) = ⊥
TypedFuncs m (t ∷ type_indices) [] = ⊥
TypedFuncs m (t ∷ type_indices) (body ∷ bodies) = TypedFunc m t body × TypedFuncs m type_indices bodies

-- "Modules": each part is typed, in the order of the sections
pub record TypedParts (m : Module) : Type 0 where
  pub types : AllByRecursion TypedFuncType m.types
  pub imports : AllByRecursion (λ i. TypedImport m i.desc) m.imports
  pub funcs : AllByRecursion (λ t. t < length m.types) m.funcs
  pub tables : AllByRecursion (TypedTable m) m.tables
  pub memories : AllByRecursion TypedMemory m.memories
  pub tags : AllByRecursion (TypedTag m) m.tags
  pub globals : TypedGlobals m (imported_of global_import m) m.globals
  pub exports : AllByRecursion (λ e. TypedDesc m e.desc) m.exports
  -- no two exports have the same name
  pub names : AllPairs (λ a b. a.name ≢ b.name) m.exports
  pub start : TypedStart m m.start
  pub elems : AllByRecursion (TypedElement m) m.elems
  pub datas : AllByRecursion (TypedSegment m) m.datas

-- "Modules": the module is typed
pub record IsTyped (m : Module) : Type 0 where
  pub counts : Agrees m
  pub parts : TypedParts m
  pub bodies : TypedFuncs m m.funcs m.codes
