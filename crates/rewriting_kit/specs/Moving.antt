-- Nodes that stay while types, indices and labels move: what becomes of an instruction, what the contexts of the input and of
-- the output owe for it, and which nodes can stay.
use Rattle.std.specs.Prelude.{◌≡◌, refl, ℕ, true, List, [], ◌∷◌, ◌++◌, map, nat_lt, Some, slice_get}
use Rattle.std.specs.List.{AllByRecursion}
use Rattle.wasm_ast.specs.declared.module.ty.Ty.{Ty}
use Rattle.wasm_ast.specs.declared.module.ty.Ty.TheVariants.{I32, Exn}
use Rattle.wasm_ast.specs.declared.module.ty.FuncType.{FuncType}
use Rattle.wasm_ast.specs.declared.module.ty.Limits.{Limits}
use Rattle.wasm_ast.specs.declared.module.ty.BlockType.{BlockType}
use Rattle.wasm_ast.specs.declared.module.ty.BlockType.TheVariants as blocks
use Rattle.wasm_ast.specs.declared.module.immediates.MemArg.{MemArg}
use Rattle.wasm_ast.specs.declared.module.immediates.Catch.{Catch}
use Rattle.wasm_ast.specs.declared.module.immediates.Catch.TheVariants as catches
use Rattle.wasm_ast.specs.declared.module.op.Op.{Op}
use Rattle.wasm_ast.specs.declared.module.op.Op.TheVariants as ops
use Rattle.wasm_ast.specs.declared.module.code.Instr.{Instr, out-Instr, roll-Instr}
use Rattle.wasm_ast.specs.declared.module.code.Instr.TheOpen.{Instr-F}
use Rattle.wasm_ast.specs.Marking.{is_marked}
use Rattle.typed_trees.specs.declared.global_type.GlobalType.{GlobalType}
use Rattle.typed_trees.specs.declared.node.Node.{Node}
use Rattle.typed_trees.specs.Contexts.{Context, block_type, is_value_type}
use Rattle.rewriting_kit.specs.Rewrites.{node_of}

-- What becomes of lists of types, each type by itself. That of a condition stays.
pub record TypeMap : Type 0 where
  pub over : List Ty → List Ty
  pub over_none : over [] ≡ []
  pub over_append : (a b : List Ty) → over (a ++ b) ≡ over a ++ over b
  pub over_condition : over (I32 ∷ []) ≡ I32 ∷ []

abbrev pub same_types : TypeMap
same_types = record { over = λ ts. ts; over_none = refl; over_append = λ a b. refl; over_condition = refl }

-- The indices in the output of what has these indices in the input, and the type of a block that had one result.
pub record Indices : Type 0 where
  pub block : Ty → BlockType
  pub type : ℕ → ℕ
  pub func : ℕ → ℕ
  pub tag : ℕ → ℕ
  pub table : ℕ → ℕ
  pub elem : ℕ → ℕ
  pub memory : ℕ → ℕ
  pub segment : ℕ → ℕ
  pub global : ℕ → ℕ
  pub local : ℕ → ℕ

abbrev pub same_indices : Indices
same_indices = record { block = λ t. blocks.One t; type = λ x. x; func = λ x. x; tag = λ x. x; table = λ x. x; elem = λ x. x; memory = λ x. x; segment = λ x. x; global = λ x. x; local = λ x. x }

-- the parts of an instruction
module _ (n : Indices) where
  abbrev pub moved_block : BlockType → BlockType
  moved_block blocks.Empty = blocks.Empty
  moved_block (blocks.One t) = n.block t
  moved_block (blocks.Index x) = blocks.Index (n.type x)

  abbrev pub moved_argument : MemArg → MemArg
  moved_argument arg = record { memory = n.memory arg.memory; align = arg.align; offset = arg.offset }

  abbrev pub moved_op : Op → Op
  moved_op (ops.RefFunc x) = ops.RefFunc (n.func x)
  moved_op op = op

  abbrev pub moved_clause : (ℕ → ℕ) → Catch → Catch
  moved_clause label (catches.Tag x l) = catches.Tag (n.tag x) (label l)
  moved_clause label (catches.TagRef x l) = catches.TagRef (n.tag x) (label l)
  moved_clause label (catches.All l) = catches.All (label l)
  moved_clause label (catches.AllRef l) = catches.AllRef (label l)

  -- an instruction with its indices and labels as they are in the output
  abbrev pub moved_layer : (ℕ → ℕ) → Instr-F Instr → Instr-F Instr
  moved_layer label (Instr-F.Block t code) = Instr-F.Block (moved_block t) code
  moved_layer label (Instr-F.Loop t code) = Instr-F.Loop (moved_block t) code
  moved_layer label (Instr-F.If t first second) = Instr-F.If (moved_block t) first second
  moved_layer label (Instr-F.TryTable t clauses code) = Instr-F.TryTable (moved_block t) (map (moved_clause label) clauses) code
  moved_layer label (Instr-F.Br l) = Instr-F.Br (label l)
  moved_layer label (Instr-F.BrIf l) = Instr-F.BrIf (label l)
  moved_layer label (Instr-F.BrTable ls last) = Instr-F.BrTable (map label ls) (label last)
  moved_layer label (Instr-F.Call x) = Instr-F.Call (n.func x)
  moved_layer label (Instr-F.CallIndirect x table) = Instr-F.CallIndirect (n.type x) (n.table table)
  moved_layer label (Instr-F.ReturnCall x) = Instr-F.ReturnCall (n.func x)
  moved_layer label (Instr-F.ReturnCallIndirect x table) = Instr-F.ReturnCallIndirect (n.type x) (n.table table)
  moved_layer label (Instr-F.Throw x) = Instr-F.Throw (n.tag x)
  moved_layer label (Instr-F.LocalGet x) = Instr-F.LocalGet (n.local x)
  moved_layer label (Instr-F.LocalSet x) = Instr-F.LocalSet (n.local x)
  moved_layer label (Instr-F.LocalTee x) = Instr-F.LocalTee (n.local x)
  moved_layer label (Instr-F.GlobalGet x) = Instr-F.GlobalGet (n.global x)
  moved_layer label (Instr-F.GlobalSet x) = Instr-F.GlobalSet (n.global x)
  moved_layer label (Instr-F.TableGet x) = Instr-F.TableGet (n.table x)
  moved_layer label (Instr-F.TableSet x) = Instr-F.TableSet (n.table x)
  moved_layer label (Instr-F.TableSize x) = Instr-F.TableSize (n.table x)
  moved_layer label (Instr-F.TableGrow x) = Instr-F.TableGrow (n.table x)
  moved_layer label (Instr-F.TableFill x) = Instr-F.TableFill (n.table x)
  moved_layer label (Instr-F.TableCopy to from) = Instr-F.TableCopy (n.table to) (n.table from)
  moved_layer label (Instr-F.TableInit segment x) = Instr-F.TableInit (n.elem segment) (n.table x)
  moved_layer label (Instr-F.ElemDrop segment) = Instr-F.ElemDrop (n.elem segment)
  moved_layer label (Instr-F.Load op arg) = Instr-F.Load op (moved_argument arg)
  moved_layer label (Instr-F.Store op arg) = Instr-F.Store op (moved_argument arg)
  moved_layer label (Instr-F.LoadVector op arg) = Instr-F.LoadVector op (moved_argument arg)
  moved_layer label (Instr-F.StoreVector arg) = Instr-F.StoreVector (moved_argument arg)
  moved_layer label (Instr-F.LoadLane shape arg lane) = Instr-F.LoadLane shape (moved_argument arg) lane
  moved_layer label (Instr-F.StoreLane shape arg lane) = Instr-F.StoreLane shape (moved_argument arg) lane
  moved_layer label (Instr-F.MemorySize x) = Instr-F.MemorySize (n.memory x)
  moved_layer label (Instr-F.MemoryGrow x) = Instr-F.MemoryGrow (n.memory x)
  moved_layer label (Instr-F.MemoryFill x) = Instr-F.MemoryFill (n.memory x)
  moved_layer label (Instr-F.MemoryCopy to from) = Instr-F.MemoryCopy (n.memory to) (n.memory from)
  moved_layer label (Instr-F.MemoryInit segment x) = Instr-F.MemoryInit (n.segment segment) (n.memory x)
  moved_layer label (Instr-F.DataDrop segment) = Instr-F.DataDrop (n.segment segment)
  moved_layer label (Instr-F.Pure op) = Instr-F.Pure (moved_op op)
  moved_layer label l = l

  abbrev pub moved_head : (ℕ → ℕ) → Instr → Instr
  moved_head label head = roll-Instr (moved_layer label (out-Instr head))

-- what branches to the labels take in the output
abbrev pub MovedLabels : TypeMap → (ℕ → ℕ) → List (List Ty) → List (List Ty) → Type 0
MovedLabels T label ls ls' = (l : ℕ) (ts : List Ty) → slice_get ls l ≡ Some ts → slice_get ls' (label l) ≡ Some (T.over ts)

module _ (T : TypeMap) where
  abbrev pub mapped_type : FuncType → FuncType
  mapped_type t = record { params = T.over t.params; results = T.over t.results }

  -- a type that is the same in the output
  abbrev pub Alone : Ty → Type 0
  Alone t = T.over (t ∷ []) ≡ t ∷ []

  -- The context of the output has what that of the input has: types, results and signatures mapped; globals and locals whose
  -- type stays; tables, segments and memories as they are.
  pub record MovedContext (n : Indices) (from into : Context) : Type 0 where
    pub blocks : (t : Ty) → is_value_type t ≡ true → block_type into (n.block t) ≡ Some (record { params = []; results = T.over (t ∷ []) })
    pub types : (x : ℕ) (t : FuncType) → slice_get from.types x ≡ Some t → slice_get into.types (n.type x) ≡ Some (mapped_type t)
    pub funcs : (x t : ℕ) → slice_get from.funcs x ≡ Some t → slice_get into.funcs (n.func x) ≡ Some (n.type t)
    pub tags : (x t : ℕ) → slice_get from.tags x ≡ Some t → slice_get into.tags (n.tag x) ≡ Some (n.type t)
    pub tables : (x : ℕ) (t : Ty) → slice_get from.tables x ≡ Some t → slice_get into.tables (n.table x) ≡ Some t
    pub elems : (x : ℕ) (t : Ty) → slice_get from.elems x ≡ Some t → slice_get into.elems (n.elem x) ≡ Some t
    pub memories : (x : ℕ) (l : Limits) → slice_get from.memories x ≡ Some l → slice_get into.memories (n.memory x) ≡ Some l
    pub datas : (x : ℕ) → nat_lt x from.datas ≡ true → nat_lt (n.segment x) into.datas ≡ true
    pub globals : (x : ℕ) (g : GlobalType) → slice_get from.globals x ≡ Some g → Alone g.ty → slice_get into.globals (n.global x) ≡ Some g
    pub refs : (x : ℕ) → is_marked from.refs x ≡ true → is_marked into.refs (n.func x) ≡ true
    pub locals : (x : ℕ) (t : Ty) → slice_get from.locals x ≡ Some t → Alone t → slice_get into.locals (n.local x) ≡ Some t
    pub returns : (ts : List Ty) → from.returns ≡ Some ts → into.returns ≡ Some (T.over ts)

  -- a clause that hands on no reference, or one that stays
  abbrev pub ClauseStays : Catch → Type 0
  ClauseStays (catches.TagRef x l) = Alone Exn
  ClauseStays (catches.AllRef l) = Alone Exn
  ClauseStays clause = Unit {0}

  -- Which nodes can stay. Blocks, branches, calls and throws carry operands of any types; a try_table does if no clause hands
  -- on a reference that becomes other values. Each other node stays if all types that it takes and gives stay: a drop, a select
  -- or a local.get of what becomes two values does not, nor throw_ref of such a reference.
  abbrev pub Stays : Instr-F Instr → List Ty → List Ty → Type 0
  Stays (Instr-F.Block t code) takes gives = Unit {0}
  Stays (Instr-F.Loop t code) takes gives = Unit {0}
  Stays (Instr-F.If t first second) takes gives = Unit {0}
  Stays (Instr-F.TryTable t clauses code) takes gives = AllByRecursion ClauseStays clauses
  Stays (Instr-F.Br l) takes gives = Unit {0}
  Stays (Instr-F.BrIf l) takes gives = Unit {0}
  Stays (Instr-F.BrTable ls last) takes gives = Unit {0}
  Stays (Instr-F.Call x) takes gives = Unit {0}
  Stays (Instr-F.CallIndirect x table) takes gives = Unit {0}
  Stays Instr-F.Return takes gives = Unit {0}
  Stays (Instr-F.ReturnCall x) takes gives = Unit {0}
  Stays (Instr-F.ReturnCallIndirect x table) takes gives = Unit {0}
  Stays (Instr-F.Throw x) takes gives = Unit {0}
  Stays l takes gives = AllByRecursion Alone takes × AllByRecursion Alone gives

  -- a node that stays
  abbrev pub moved_node : Indices → (ℕ → ℕ) → Instr → List Ty → List Ty → List Node → List Node → Node
  moved_node n label head takes gives first second = node_of (moved_head n label head) (T.over takes) (T.over gives) first second
