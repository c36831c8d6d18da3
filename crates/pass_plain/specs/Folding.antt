-- A module without constant expressions that compute: an expression that folds becomes the one instruction that it folds
-- to, and a global whose initial value does not fold begins as zero and is set by code that runs before all else.
use Rattle.std.specs.Prelude.{ℕ, ◌+◌, true, List, [], ◌∷◌, ◌++◌, map, length, slice_get, option_to_list, Option, Some, None}
use Rattle.wasm_ast.specs.declared.module.ty.Ty.{Ty}
use Rattle.wasm_ast.specs.declared.module.ty.Ty.TheVariants as types
use Rattle.wasm_ast.specs.declared.module.ty.FuncType.{FuncType}
use Rattle.wasm_ast.specs.declared.module.op.Op.TheVariants as ops
use Rattle.wasm_ast.specs.declared.module.code.Body.{Body}
use Rattle.wasm_ast.specs.declared.module.code.Instr.{Instr, out-Instr}
use Rattle.wasm_ast.specs.declared.module.code.Instr.TheOpen.{Instr-F}
use Rattle.wasm_ast.specs.declared.module.code.Instr.TheVariants.{Pure, GlobalGet, GlobalSet}
use Rattle.wasm_ast.specs.declared.module.parts.Element.{Element}
use Rattle.wasm_ast.specs.declared.module.parts.Global.{Global}
use Rattle.wasm_ast.specs.declared.module.parts.Mode.{Mode}
use Rattle.wasm_ast.specs.declared.module.parts.Mode.TheVariants.{Active}
use Rattle.wasm_ast.specs.declared.module.parts.Module.{Module}
use Rattle.wasm_ast.specs.declared.module.parts.Segment.{Segment}
use Rattle.wasm_ast.specs.declared.folding.folded.Folded.{Folded}
use Rattle.wasm_ast.specs.declared.folding.folded.Folded.TheVariants.{I32, I64, Imported}
use Rattle.wasm_ast.specs.Fold.{fold_of, known_at, known_globals}
use Rattle.wasm_ast.specs.Spaces.{is_global, imported, func_count, global_types}
use Rattle.typed_trees.specs.declared.module.TypedFn.{TypedFn}
use Rattle.typed_trees.specs.declared.node.Node.{Node}
use Rattle.typed_trees.specs.Operands.{int_type}
use Rattle.rewriting_kit.specs.Rewrites.{node_of}
use Rattle.stage_kit.specs.Prepared.{call_start}

-- the instruction to which an expression folds, and the expression where it does not fold
abbrev pub folded_instr : Folded → Instr
folded_instr (I32 n) = Pure (ops.I32Const n)
folded_instr (I64 n) = Pure (ops.I64Const n)
folded_instr (Imported j t) = GlobalGet j

abbrev pub folded_code : List Instr → Option Folded → List Instr
folded_code code (Some v) = folded_instr v ∷ []
folded_code code None = code

-- an offset, where it is known what each global folds to
abbrev pub folded_mode : List (Option Folded) → Mode → Mode
folded_mode known (Active x offset) = Active x (folded_code offset (fold_of known offset))
folded_mode known mode = mode

abbrev pub folded_elem : List (Option Folded) → Element → Element
folded_elem known e = record e { mode = folded_mode known e.mode }

abbrev pub folded_data : List (Option Folded) → Segment → Segment
folded_data known d = record d { mode = folded_mode known d.mode }

-- the zero of a type; of types that are no integers none is asked for
abbrev pub zero_of : Ty → Instr
zero_of types.I64 = Pure (ops.I64Const 0)
zero_of _ = Pure (ops.I32Const 0)

-- a global by what its initial value folds to: where it does not fold, code sets it, so it can be changed
abbrev pub folded_global : Global → Option Folded → Global
folded_global g (Some v) = record g { init = folded_instr v ∷ [] }
folded_global g None = record g { mutable = true; init = zero_of g.ty ∷ [] }

-- globals from an index on
abbrev pub folded_globals : List (Option Folded) → ℕ → List Global → List Global
folded_globals known x [] = []
folded_globals known x (g ∷ globals) = folded_global g (known_at known x) ∷ folded_globals known (x + 1) globals

-- the code that sets those that do not fold, each to its initial value
abbrev pub set_global : ℕ → List Instr → Option Folded → List Instr
set_global x code (Some v) = []
set_global x code None = code ++ GlobalSet x ∷ []

abbrev pub set_globals : List (Option Folded) → ℕ → List Global → List Instr
set_globals known x [] = []
set_globals known x (g ∷ globals) = set_global x g.init (known_at known x) ++ set_globals known (x + 1) globals

-- the module with folded expressions, and the code that sets its globals
abbrev pub folded_part : Module → Module
folded_part m =
    record m {
      globals = folded_globals (known_globals m) (imported is_global m) m.globals;
      elems = map (folded_elem (known_globals m)) m.elems;
      datas = map (folded_data (known_globals m)) m.datas;
    }

abbrev pub setting_code : Module → List Instr
setting_code m = set_globals (known_globals m) (imported is_global m) m.globals

-- a function without parameters, results and locals behind all others, which runs first; its type stands last
abbrev pub nothing_to_nothing : FuncType
nothing_to_nothing = record { params = []; results = [] }

abbrev pub with_start : Module → Module
with_start m =
    record m {
      types = m.types ++ nothing_to_nothing ∷ [];
      funcs = m.funcs ++ length m.types ∷ [];
      start = Some (func_count m);
    }

-- where there is code to be run
abbrev pub started_part : List Instr → Module → Module
started_part [] m = m
started_part (i ∷ code) m = with_start m

-- that code, and then a call of the start function, if there is one
abbrev pub start_body : Option ℕ → List Instr → List Instr
start_body start code = code ++ call_start start

-- the bodies behind those of a module: that of the function that runs first, if there is one
abbrev pub start_bodies : Option ℕ → List Instr → List Body
start_bodies start [] = []
start_bodies start (i ∷ code) = record { locals = []; code = start_body start (i ∷ code) } ∷ []

-- All of it, as a map of modules, by that code.
abbrev pub started : Module → List Instr → Module
started m code = record (started_part code (folded_part m)) { codes = m.codes ++ start_bodies m.start code }

abbrev pub without_constants : Module → Module
without_constants m = started m (setting_code m)

-- The same on typed trees. An instruction of that code as a node: what it takes and gives, by the type of each global.
abbrev pub type_at : List Ty → ℕ → List Ty
type_at globals x = option_to_list (slice_get globals x)

abbrev pub setting_types : List Ty → Instr-F Instr → List Ty × List Ty
setting_types globals (Instr-F.GlobalGet x) = ([], type_at globals x)
setting_types globals (Instr-F.GlobalSet x) = (type_at globals x, [])
setting_types globals (Instr-F.Pure (ops.I32Const n)) = ([], types.I32 ∷ [])
setting_types globals (Instr-F.Pure (ops.I64Const n)) = ([], types.I64 ∷ [])
setting_types globals (Instr-F.Pure (ops.Binary w op)) = (int_type w ∷ int_type w ∷ [], int_type w ∷ [])
setting_types globals _ = ([], [])

abbrev pub setting_node : List Ty → Instr → Node
setting_node globals i = node_of i (setting_types globals (out-Instr i)).0 (setting_types globals (out-Instr i)).1 [] []

abbrev pub start_fns : Module → List Instr → List TypedFn
start_fns m [] = []
start_fns m (i ∷ code) = record { locals = []; body = map (setting_node (global_types m)) (start_body m.start (i ∷ code)) } ∷ []

-- the parts and the functions
abbrev pub tree_without_constants : Module × List TypedFn → Module × List TypedFn
tree_without_constants m = (started_part (setting_code m.0) (folded_part m.0), m.1 ++ start_fns m.0 (setting_code m.0))
