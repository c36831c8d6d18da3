-- What constant expressions give, by the values of the imported globals, and what is asked of the constants in them.
use Rattle.std.specs.Prelude.{◌≡◌, ℕ, ◌+◌, ◌<◌, ◌^◌, true, List, [], ◌∷◌, length, slice_index_or, Option, Some, None}
use Rattle.std.specs.List.{AllByRecursion}
use Rattle.wasm_ast.specs.declared.folding.folded.Folded.{Folded}
use Rattle.wasm_ast.specs.declared.folding.folded.Folded.TheVariants.{I32, I64, Imported}
use Rattle.wasm_ast.specs.declared.module.code.Instr.{Instr, out-Instr}
use Rattle.wasm_ast.specs.declared.module.code.Instr.TheOpen.{Instr-F}
use Rattle.wasm_ast.specs.declared.module.op.Op.{Op}
use Rattle.wasm_ast.specs.declared.module.op.Op.TheVariants as ops
use Rattle.wasm_ast.specs.declared.module.parts.Global.{Global}
use Rattle.wasm_ast.specs.declared.module.parts.Module.{Module}
use Rattle.wasm_ast.specs.Fold.{fold_of, known_globals}
use Rattle.wasm_ast.specs.Spaces.{is_global, imported, func_indices}
use Rattle.meaning_new.specs.Interface.{tag_indices}
use Rattle.stage_kit.specs.Adding.{CodeNamed}
use Rattle.stage_kit.specs.Appended.{names_of}
use Rattle.stage_kit.specs.Hosting.{export_named}
use Rattle.stage_kit.specs.Naming.{ModuleNamed}
use Rattle.wasm_ast.specs.declared.module.parts.Mode.{Mode}
use Rattle.wasm_ast.specs.declared.module.parts.Mode.TheVariants.{Active}
use Rattle.meaning_new.specs.declared.val.Val.{Val}
use Rattle.meaning_new.specs.declared.val.Val.TheVariants as vals
use Rattle.meaning_new.specs.Store.{missing}
use Rattle.meaning_new.specs.Instances.{constant_steps, constant}
use Rattle.evaluation_kit.specs.Leaves.{below}
use Rattle.typed_trees.specs.Constants.{is_constant_op}

-- the value to which an expression folds
abbrev pub folded_value : List Val → Folded → Val
folded_value imports (I32 n) = vals.I32 n
folded_value imports (I64 n) = vals.I64 n
folded_value imports (Imported j t) = slice_index_or imports j missing

-- an integer of its width, and an imported global that is there
abbrev pub IsWithin : List Val → Folded → Type 0
IsWithin imports (I32 n) = n < 2 ^ 32
IsWithin imports (I64 n) = n < 2 ^ 64
IsWithin imports (Imported j t) = j < length imports

-- a global that is known to fold has that value
abbrev pub Tells : List Val → Option Folded → Val → Type 0
Tells imports (Some v) value = IsWithin imports v × (value ≡ folded_value imports v)
Tells imports None value = Unit {0}

-- Each constant is an integer of its width. A number of the code has such a type; a module as it is spoken of here may hold any.
abbrev pub OpInRange : Op → Type 0
OpInRange (ops.I32Const n) = n < 2 ^ 32
OpInRange (ops.I64Const n) = n < 2 ^ 64
OpInRange _ = Unit {0}

abbrev pub InstrInRange : Instr-F Instr → Type 0
InstrInRange (Instr-F.Pure op) = OpInRange op
InstrInRange _ = Unit {0}

abbrev pub CodeInRange : List Instr → Type 0
CodeInRange code = AllByRecursion (λ i. InstrInRange (out-Instr i)) code

abbrev pub ModeInRange : Mode → Type 0
ModeInRange (Active x offset) = CodeInRange offset
ModeInRange _ = Unit {0}

-- an instruction of a constant expression that reads only globals before an index
abbrev pub Reads : ℕ → Instr-F Instr → Type 0
Reads x (Instr-F.Pure op) = is_constant_op op ≡ true
Reads x (Instr-F.GlobalGet y) = y < x
Reads x _ = ⊥

abbrev pub IsSettable : ℕ → List Instr → Type 0
IsSettable x code = AllByRecursion (λ i. Reads x (out-Instr i)) code

-- it leaves one value
abbrev pub LeavesOne : List Instr → Type 0
LeavesOne code = (globals : List Val) → below (constant_steps globals code []) ≡ []

-- each initial value reads the globals before its own, the first of which has an index
abbrev pub AreSettable : ℕ → List Global → Type 0
AreSettable x [] = Unit {0}
AreSettable x (g ∷ globals) = IsSettable x g.init × LeavesOne g.init × AreSettable (x + 1) globals

-- an offset that folds
abbrev pub ModeFolds : List (Option Folded) → Mode → Type 0
ModeFolds known (Active x offset) = (v : Folded) × (fold_of known offset ≡ Some v)
ModeFolds known _ = Unit {0}

-- an expression whose value no global makes, and one that there may be or not
abbrev pub ReadsNone : List Instr → Type 0
ReadsNone code = (globals others : List Val) → constant others code ≡ constant globals code

abbrev pub EntryReadsNone : Option (List Instr) → Type 0
EntryReadsNone None = Unit {0}
EntryReadsNone (Some code) = ReadsNone code

-- What a module must be so that its constant expressions become single instructions and code.
pub record HasConstants (m : Module) : Type 0 where
  pub ranges : AllByRecursion (λ g. CodeInRange g.init) m.globals
  pub elem_ranges : AllByRecursion (λ e. ModeInRange e.mode) m.elems
  pub data_ranges : AllByRecursion (λ d. ModeInRange d.mode) m.datas
  pub settable : AreSettable (imported is_global m) m.globals
  -- offsets fold, and entries of tables and of element segments read no globals
  pub elem_offsets : AllByRecursion (λ e. ModeFolds (known_globals m) e.mode) m.elems
  pub data_offsets : AllByRecursion (λ d. ModeFolds (known_globals m) d.mode) m.datas
  pub entries : AllByRecursion (λ t. EntryReadsNone t.init) m.tables
  pub items : AllByRecursion (λ e. AllByRecursion ReadsNone e.items) m.elems

-- What such a module names is there: functions, types, and the globals of which there are so many.
pub record NamesThere (m : Module) (globals : ℕ) : Type 0 where
  pub named : ModuleNamed m (names_of m globals) globals
  pub exports_named : AllByRecursion (λ e. export_named (names_of m globals) e.desc ≡ true) m.exports
  pub code_named : AllByRecursion (λ b. AllByRecursion (CodeNamed m (names_of m globals)) b.code) m.codes
  pub funcs_typed : AllByRecursion (λ t. t < length m.types) (func_indices m)
  pub tags_typed : AllByRecursion (λ t. t < length m.types) (tag_indices m)
  pub bodies : length m.funcs ≡ length m.codes
