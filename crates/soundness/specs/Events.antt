-- What the host sees of a typed module has the types that the module says: arguments, results and payloads those of the
-- function or the tag, and the values of the exported globals theirs.
use Rattle.std.specs.Prelude.{◌≡◌, ℕ, Bool, true, false, List, filter_map, slice_get, Option, Some, None, option_and_then}
use Rattle.std.specs.List.{AllByRecursion}
use Rattle.host_kit.specs.Fits.{ScriptFits}
use Rattle.host_kit.specs.Offered.{exported, func_type}
use Rattle.host_kit.specs.Pairwise.{Pairwise}
use Rattle.host_kit.specs.Trace.{events}
use Rattle.host_kit.specs.declared.event.Event.{Event}
use Rattle.host_kit.specs.declared.event.Event.TheVariants.{HostCall, Returned, Trapped, Uncaught, Full}
use Rattle.host_kit.specs.declared.script.Item.{Item}
use Rattle.host_kit.specs.declared.script.Item.TheVariants.{Call, Host}
use Rattle.host_kit.specs.declared.script.Script.{Script}
use Rattle.host_kit.specs.declared.value.Value.{Value}
use Rattle.host_kit.specs.declared.value.Value.TheVariants as values
use Rattle.wasm_ast.specs.Spaces.{func_import}
use Rattle.wasm_ast.specs.declared.module.parts.ExportDesc.{ExportDesc}
use Rattle.wasm_ast.specs.declared.module.parts.ExportDesc.TheVariants.{Func}
use Rattle.wasm_ast.specs.declared.module.parts.Module.{Module}
use Rattle.wasm_ast.specs.declared.module.ty.FuncType.{FuncType}
use Rattle.wasm_ast.specs.declared.module.ty.Ty.{Ty}
use Rattle.wasm_ast.specs.declared.module.ty.Ty.TheVariants as types
use Rattle.typed_trees.specs.declared.module.TypedFn.{TypedFn}
use Rattle.typed_trees.specs.Typed.{module_of, IsTypedTree}
use Rattle.meaning_new.specs.Forms.{type_of_tag}
use Rattle.meaning_new.specs.Interface.{ExternType, interface, global}
use Rattle.meaning_new.specs.Runs.{trace}

-- A value as one of a type is shown to the host, whatever its number. An exception does not meet the host: it is shown as
-- null
abbrev pub is_shown_as : Value → Ty → Bool
is_shown_as (values.I32 i) types.I32 = true
is_shown_as (values.I64 i) types.I64 = true
is_shown_as (values.V128 low high) types.V128 = true
is_shown_as (values.Func x) types.Func = true
is_shown_as values.NullFunc types.Func = true
is_shown_as (values.Extern a) types.Extern = true
is_shown_as values.NullExtern types.Extern = true
is_shown_as values.NullExtern types.Exn = true
is_shown_as v t = false

-- as many values as types, each shown as one of its type
abbrev pub AreShownAs : List Value → List Ty → Type 0
AreShownAs vs ts = Pairwise (λ v t. is_shown_as v t ≡ true) vs ts

-- the type of the imported function with this number
abbrev pub imported_type : Module → ℕ → Option FuncType
imported_type m j = option_and_then (slice_get m.types) (slice_get (filter_map (λ i. func_import i.desc) m.imports) j)

-- the type of what a module exports, where that is a function
abbrev pub exported_type : Module → ExportDesc → Option FuncType
exported_type m (Func x) = func_type m x
exported_type m _ = None

-- the type of the function that an item calls
abbrev pub item_type : Module → Item → Option FuncType
item_type m (Call name arguments) = option_and_then (exported_type m) (exported m name)
item_type m (Host act) = None

-- the type of the function that the item at a place of the script calls
abbrev pub called_type : Module → Script → ℕ → Option FuncType
called_type m s i = option_and_then (item_type m) (slice_get s.items i)

-- the types of the exported globals, in export order
abbrev pub global_type : ExternType → Option Ty
global_type (global t mutable) = Some t
global_type _ = None

abbrev pub exported_globals : Module → List Ty
exported_globals m = filter_map (λ e. option_and_then global_type e.type) (interface m).exports

-- an event of the call of what has a type: the type says what its values are, and the values behind them are those of the
-- exported globals
pub record ShownCall (m : Module) (called : Option FuncType) (shown : List Value) (P : FuncType → Type 0) : Type 0 where
  pub type : FuncType
  pub named : called ≡ Some type
  pub values : P type
  pub globals : AreShownAs shown (exported_globals m)

-- An event in the run of a script. A run without bounds never shows a full store of captured exceptions
abbrev pub EventTyped : Module → Script → Event → Type 0
EventTyped m s (HostCall j arguments globals) = ShownCall m (imported_type m j) globals (λ t. AreShownAs arguments t.params)
EventTyped m s (Returned i results globals) = ShownCall m (called_type m s i) globals (λ t. AreShownAs results t.results)
EventTyped m s (Trapped i globals) = ShownCall m (called_type m s i) globals (λ t. Unit {0})
EventTyped m s (Uncaught i tag payload globals) =
    ((t : FuncType) × (called_type m s i ≡ Some t)) × ShownCall m (type_of_tag m tag) globals (λ t. AreShownAs payload t.params)
EventTyped m s Full = ⊥
EventTyped m s event = Unit {0}

-- For every typed module, every script that fits it and any number of turns: each event has its types.
abbrev pub EventsAreTyped : Type 0
EventsAreTyped =
    (p : Module × List TypedFn) → IsTypedTree p → (script : Script) → ScriptFits (module_of p) script → (n : ℕ) →
    AllByRecursion (EventTyped (module_of p) script) (events (trace (module_of p) script n))
