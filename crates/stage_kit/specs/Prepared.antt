-- A module that begins as another does but for the values of globals, and whose start function sets them before it does what
-- the start function of the other does.
use Rattle.std.specs.Prelude.{◌≡◌, ℕ, ◌+◌, ◌≤◌, true, List, [], ◌∷◌, ◌++◌, length, Option, Some, None, option_map}
use Rattle.std.specs.List.{AllByRecursion}
use Rattle.host_kit.specs.Fits.{ScriptFits}
use Rattle.host_kit.specs.declared.script.Script.{Script}
use Rattle.wasm_ast.specs.declared.module.code.Body.{Body}
use Rattle.wasm_ast.specs.declared.module.code.Instr.{Instr}
use Rattle.wasm_ast.specs.declared.module.code.Instr.TheVariants.{Call}
use Rattle.wasm_ast.specs.declared.module.parts.Element.{Element}
use Rattle.wasm_ast.specs.declared.module.parts.Mode.{Mode}
use Rattle.wasm_ast.specs.declared.module.parts.Mode.TheVariants.{Active, Passive, Declarative}
use Rattle.wasm_ast.specs.declared.module.parts.Module.{Module}
use Rattle.wasm_ast.specs.declared.module.parts.Segment.{Segment}
use Rattle.evaluation_kit.specs.Configurations.{World}
use Rattle.evaluation_kit.specs.Control.{Function, Own}
use Rattle.evaluation_kit.specs.Languages.{exec_code}
use Rattle.meaning_new.specs.declared.val.Val.{Val}
use Rattle.meaning_new.specs.Store.{Store, State, with_store}
use Rattle.meaning_new.specs.Forms.{callee}
use Rattle.meaning_new.specs.Instances.{constant, place_segments}
use Rattle.meaning_new.specs.Language.{language}
use Rattle.meaning_new.specs.Runs.{trace, depth}
use Rattle.stage_kit.specs.Adding.{CodeNamed}
use Rattle.stage_kit.specs.Appended.{Appended, names_of}
use Rattle.stage_kit.specs.Hosting.{export_named}
use Rattle.stage_kit.specs.Naming.{ModuleNamed}
use Rattle.stage_kit.specs.Staged.{start_state}

-- a store, and a state, whose globals have these values
abbrev pub store_with : List Val → Store → Store
store_with globals s = record s { globals = globals }

abbrev pub state_with : List Val → State → State
state_with globals s = record s { store = store_with globals s.store }

-- code that calls the start function, if there is one
abbrev pub call_start : Option ℕ → List Instr
call_start (Some f) = Call f ∷ []
call_start None = []

-- a function of the module with this code, that takes and gives nothing
abbrev pub preparing : List Instr → Function Instr Val
preparing code = record { params = 0; results = 0; zeros = []; body = code }

-- How such a module begins under a script.
pub record Begins (m o : Module) (code : List Instr) (s : Script) : Type 0 where
  pub others : List Val
  pub begins : start_state o s ≡ state_with others (start_state m s)
  -- segments are placed as in the other
  pub segments : place_segments o (store_with others (start_state m s).store) ≡ option_map (store_with others) (place_segments m (start_state m s).store)
  -- and where they are, the code first gives each global its value
  pub sets : (t : Store) → place_segments m (start_state m s).store ≡ Some t → (d k : ℕ) (w : World State) →
      exec_code (language o) code d k (record { operands = []; locals = []; world = record w { state = state_with others (with_store t (start_state m s)) } })
      ≡ exec_code (language o) (call_start m.start) d k (record { operands = []; locals = []; world = record w { state = with_store t (start_state m s) } })

-- The modules: all else is the same, and the function that prepares stands behind the others.
pub record Prepares (m o : Module) (globals : ℕ) : Type 0 where
  pub appended : Appended m o
  pub named : ModuleNamed m (names_of m globals) globals
  pub exports_named : AllByRecursion (λ e. export_named (names_of m globals) e.desc ≡ true) m.exports
  pub imports : o.imports ≡ m.imports
  pub exports : o.exports ≡ m.exports
  pub memories : o.memories ≡ m.memories
  pub tables : o.tables ≡ m.tables
  pub more_codes : List Body
  pub codes : o.codes ≡ m.codes ++ more_codes
  pub bodies : length m.funcs ≡ length m.codes
  pub code_named : AllByRecursion (λ b. AllByRecursion (CodeNamed m (names_of m globals)) b.code) m.codes
  pub start_code : List Instr
  pub start : ℕ
  pub is_start : o.start ≡ Some start
  pub is_function : callee o start ≡ Some (Own (preparing start_code))
  pub run_begins : (s : Script) → ScriptFits m s → Begins m o start_code s

-- The output shows within enough turns what the input shows within n, and has one call more open.
pub record ShowsLater (m o : Module) (s : Script) (n : ℕ) : Type 0 where
  pub turns : ℕ
  pub enough : n ≤ turns
  pub shows : trace o s turns ≡ trace m s n
  pub deep : depth o s turns ≤ depth m s n + 1

-- Segments that are placed alike where the globals of one store have these values and those of the other have others: an
-- offset has the same value in both.
abbrev pub ModeAlike : List Val → List Val → Mode → Mode → Type 0
ModeAlike globals others (Active x offset) (Active x' offset') = (x' ≡ x) × (constant others offset' ≡ constant globals offset)
ModeAlike globals others Passive Passive = Unit {0}
ModeAlike globals others Declarative Declarative = Unit {0}
ModeAlike globals others _ _ = ⊥

abbrev pub ElemAlike : List Val → List Val → Element → Element → Type 0
ElemAlike globals others e e' = (e'.items ≡ e.items) × ModeAlike globals others e.mode e'.mode

abbrev pub DataAlike : List Val → List Val → Segment → Segment → Type 0
DataAlike globals others d d' = (d'.bytes ≡ d.bytes) × ModeAlike globals others d.mode d'.mode
