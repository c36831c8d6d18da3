-- When a module of 1.0 is typed (chapter 3, "Validation"), by rules.
use Rattle.std.specs.Prelude.{◌≡◌, ◌≢◌, ℕ, ◌<◌, ◌≤◌, ◌^◌, false, List, [], ◌∷◌, ◌++◌, length, Option, Some, None, slice_get, AllPairs}
use Rattle.std.specs.List.{AllByRecursion}
use Rattle.core1_ast.specs.declared.module.ty.Ty1.{Ty1}
use Rattle.core1_ast.specs.declared.module.ty.Ty1.TheVariants.{I32}
use Rattle.core1_ast.specs.declared.module.ty.FuncType1.{FuncType1}
use Rattle.core1_ast.specs.declared.module.ty.Limits1.{Limits1}
use Rattle.core1_ast.specs.declared.module.op.Op1.TheVariants as ops
use Rattle.core1_ast.specs.declared.module.code.Instr1.{Instr1}
use Rattle.core1_ast.specs.declared.module.code.Instr1.TheVariants as instrs
use Rattle.core1_ast.specs.declared.module.code.Body1.{Body1}
use Rattle.core1_ast.specs.declared.module.parts.ImportDesc1.{ImportDesc1}
use Rattle.core1_ast.specs.declared.module.parts.ImportDesc1.TheVariants as imports
use Rattle.core1_ast.specs.declared.module.parts.Global1.{Global1}
use Rattle.core1_ast.specs.declared.module.parts.ExportDesc1.{ExportDesc1}
use Rattle.core1_ast.specs.declared.module.parts.ExportDesc1.TheVariants as exports
use Rattle.core1_ast.specs.declared.module.parts.Element1.{Element1}
use Rattle.core1_ast.specs.declared.module.parts.Segment1.{Segment1}
use Rattle.core1_ast.specs.declared.module.parts.Module1.{Module1}
use Rattle.core1_ast.specs.Spaces.{GlobalType, func_indices, all_tables, all_memories, imported_globals, all_globals}
pub use Rattle.core1_ast.specs.Code.{Context, TypedTy, func_type, HasTable, HasMemory, labelled, Typed, TypedCode}
pub use Rattle.core1_ast.specs.Code.{pure, drop, select, local_get, local_set, local_tee, global_get, global_set, load, store}
pub use Rattle.core1_ast.specs.Code.{memory_size, memory_grow, nop, unreachable, block, loop, choice, br, br_if, br_table}
pub use Rattle.core1_ast.specs.Code.{leave, call, call_indirect, none, more}
pub use Rattle.core1_ast.specs.Lengths.{IsShort, IsShortType, IsShortImport, IsShortElement, IsShortBody, IsShortSegment, IsShortModule}

-- "Modules": the context of the module, outside its functions
abbrev pub context : Module1 → Context
context m = record {
  types = m.types;
  funcs = func_indices m;
  tables = all_tables m;
  memories = all_memories m;
  globals = all_globals m;
  locals = [];
  labels = [];
  returns = None;
}

-- "Modules": the context of the initial values of globals, which may name imported globals alone
abbrev pub imports_context : Module1 → Context
imports_context m = record {
  types = [];
  funcs = [];
  tables = [];
  memories = [];
  globals = imported_globals m;
  locals = [];
  labels = [];
  returns = None;
}

-- "Functions": the context of the body of a function
abbrev pub body_context : Module1 → FuncType1 → Body1 → Context
body_context m t body =
    record (context m) { locals = t.params ++ body.locals; labels = t.results ∷ []; returns = Some t.results }

-- "Function Types": at most one result
pub record TypedFuncType (t : FuncType1) : Type 0 where
  pub params : AllByRecursion TypedTy t.params
  pub results : AllByRecursion TypedTy t.results
  pub one : length t.results ≤ 1

-- "Limits": no size is beyond the bound, and the greatest is not below the least
abbrev pub IsGreatest : ℕ → ℕ → Option ℕ → Type 0
IsGreatest bound least None = Unit {0}
IsGreatest bound least (Some greatest) = (greatest ≤ bound) × (least ≤ greatest)

pub record TypedLimits (bound : ℕ) (l : Limits1) : Type 0 where
  pub least : l.min ≤ bound
  pub greatest : IsGreatest bound l.min l.max

-- "Table Types" and "Memory Types"
abbrev pub TypedTable : Limits1 → Type 0
TypedTable l = TypedLimits (2 ^ 32) l

abbrev pub TypedMemory : Limits1 → Type 0
TypedMemory l = TypedLimits (2 ^ 16) l

-- "Imports"
abbrev pub TypedImport : Module1 → ImportDesc1 → Type 0
TypedImport m (imports.Func t) = t < length m.types
TypedImport m (imports.Table l) = TypedTable l
TypedImport m (imports.Memory l) = TypedMemory l
TypedImport m (imports.Global t mutable) = TypedTy t

-- "Functions": over the parameters and the declared locals the code leaves the results and nothing else
pub record TypedBody (m : Module1) (t : FuncType1) (body : Body1) : Type 0 where
  pub locals : AllByRecursion TypedTy body.locals
  pub code : TypedCode (body_context m t body) body.code [] t.results

-- "Functions": each function has a type of the module, and a body of this type
pub record TypedFunc (m : Module1) (type_index : ℕ) (body : Body1) : Type 0 where
  pub type : FuncType1
  pub declared : slice_get m.types type_index ≡ Some type
  pub typed : TypedBody m type body

-- each function with the body at its place; there are as many of both
abbrev pub TypedFuncs : Module1 → List ℕ → List Body1 → Type 0
TypedFuncs m [] [] = Unit {0}
TypedFuncs m [] (body ∷ bodies) = ⊥
TypedFuncs m (t ∷ type_indices) [] = ⊥
TypedFuncs m (t ∷ type_indices) (body ∷ bodies) = TypedFunc m t body × TypedFuncs m type_indices bodies

-- "Constant Expressions": constants, and globals that cannot be changed
pub data IsConstant : Context → Instr1 → Type 0 where
  i32_const : (c : Context) (i : Instr1) (n : ℕ) → i ≡ instrs.Pure (ops.I32Const n) → IsConstant c i
  i64_const : (c : Context) (i : Instr1) (n : ℕ) → i ≡ instrs.Pure (ops.I64Const n) → IsConstant c i
  fixed_global : (c : Context) (i : Instr1) (x : ℕ) (g : GlobalType) → i ≡ instrs.GlobalGet x → slice_get c.globals x ≡ Some g → g.mutable ≡ false → IsConstant c i

pub record TypedConstant (c : Context) (code : List Instr1) (t : Ty1) : Type 0 where
  pub constant : AllByRecursion (IsConstant c) code
  pub typed : TypedCode c code [] (t ∷ [])

-- "Globals"
pub record TypedGlobal (m : Module1) (g : Global1) : Type 0 where
  pub type : TypedTy g.ty
  pub init : TypedConstant (imports_context m) g.init g.ty

-- "Exports": the index is in range
abbrev pub TypedDesc : Module1 → ExportDesc1 → Type 0
TypedDesc m (exports.Func x) = x < length (func_indices m)
TypedDesc m (exports.Table x) = x < length (all_tables m)
TypedDesc m (exports.Memory x) = x < length (all_memories m)
TypedDesc m (exports.Global x) = x < length (all_globals m)

-- "Start Function": it takes nothing and gives nothing
pub record TypedStartFunc (m : Module1) (x : ℕ) : Type 0 where
  pub type : FuncType1
  pub declared : func_type (context m) x ≡ Some type
  pub params : type.params ≡ []
  pub results : type.results ≡ []

abbrev pub TypedStart : Module1 → Option ℕ → Type 0
TypedStart m None = Unit {0}
TypedStart m (Some x) = TypedStartFunc m x

-- "Element Segments"
pub record TypedElement (m : Module1) (e : Element1) : Type 0 where
  pub table : e.table < length (all_tables m)
  pub offset : TypedConstant (context m) e.offset I32
  pub items : AllByRecursion (λ x. x < length (func_indices m)) e.items

-- "Data Segments"
pub record TypedSegment (m : Module1) (s : Segment1) : Type 0 where
  pub memory : s.memory < length (all_memories m)
  pub offset : TypedConstant (context m) s.offset I32

-- "Modules": the module is typed
pub record Typed1 (m : Module1) : Type 0 where
  pub types : AllByRecursion TypedFuncType m.types
  pub imports : AllByRecursion (λ i. TypedImport m i.desc) m.imports
  pub funcs : TypedFuncs m m.funcs m.codes
  pub tables : AllByRecursion TypedTable m.tables
  pub memories : AllByRecursion TypedMemory m.memories
  pub globals : AllByRecursion (TypedGlobal m) m.globals
  pub exports : AllByRecursion (λ e. TypedDesc m e.desc) m.exports
  pub start : TypedStart m m.start
  pub elems : AllByRecursion (TypedElement m) m.elems
  pub datas : AllByRecursion (TypedSegment m) m.datas
  -- at most one table and one memory, imports included
  pub one_table : length (all_tables m) ≤ 1
  pub one_memory : length (all_memories m) ≤ 1
  -- no two exports have the same name
  pub names : AllPairs (λ a b. a.name ≢ b.name) m.exports
  pub short : IsShortModule m
