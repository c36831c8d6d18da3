-- Which events a lowered module may show: they speak of the input's imports and of calls of the script, with values of
-- the mapped types and marks in their ranges. This project's own.
use Rattle.std.specs.Prelude.{◌≡◌, ℕ, zero, suc, ◌+◌, ◌<◌, ◌≤◌, ◌^◌, ◌⊎◌, List, [], ◌∷◌, ◌++◌, length, take, drop, replicate, Option, Some}
use Rattle.host_kit.specs.declared.event.Event.{Event}
use Rattle.host_kit.specs.declared.event.Event.TheVariants as events
use Rattle.host_kit.specs.declared.script.Script.{Script}
use Rattle.host_kit.specs.declared.value.Value.{Value}
use Rattle.wasm_ast.specs.declared.module.parts.Module.{Module}
use Rattle.wasm_ast.specs.declared.module.ty.FuncType.{FuncType}
use Rattle.core1_ast.specs.declared.module.ty.Ty1.{Ty1}
use Rattle.core1_ast.specs.declared.module.ty.Ty1.TheVariants.{I32, I64}
use Rattle.evaluation_kit.specs.Leaves.{top, below}
use Rattle.meaning_new.specs.Forms.{type_of_tag}
use Rattle.meaning_new.specs.Interface.{Interface, interface}
use Rattle.host_kit.specs.Fits1.{ValuesHaveTypes1}
use Rattle.headline.specs.Flattening.{flat}
use Rattle.soundness.specs.Events.{exported_globals, imported_type, called_type}
use Rattle.headline.specs.Marks.{Marks, exception_count, payload_count, result_count, marks_of}
use Rattle.headline.specs.Unmapping.{params_of, unmap_event}

-- the types of the marks, in their order
abbrev pub mark_types : Interface → List Ty1
mark_types i = replicate (exception_count i.tags) I32 ++ replicate (payload_count i + result_count i) I64

-- the values of the input's exported globals, and then the marks, with or without that of a full store; no exception has
-- another tag than those of the input
pub record GlobalsFit (m : Module) (globals : List Value) : Type 0 where
  pub values : ValuesHaveTypes1 globals (flat (exported_globals m) ++ mark_types (interface m))
      ⊎ ValuesHaveTypes1 globals (flat (exported_globals m) ++ I32 ∷ mark_types (interface m))
  pub tag : (marks_of m globals).exception ≤ length (interface m).tags

-- words that are read as values of these types: each that is read as 32 bits has no more
abbrev pub WordsFit : List Ty1 → List ℕ → Type 0
WordsFit [] words = Unit {0}
WordsFit (I32 ∷ types) words = (top 0 words < 2 ^ 32) × WordsFit types (below words)
WordsFit (_ ∷ types) words = WordsFit types (below words)

-- the marks that are read where a call returned: those of results beyond the first, or those of a payload
abbrev pub MarksFit : Module → FuncType → ℕ → Marks → Type 0
MarksFit m type zero marks = WordsFit (drop 1 (flat type.results)) marks.further
MarksFit m type (suc tag) marks = WordsFit (flat (params_of (type_of_tag m tag))) marks.payload

-- a call of a function of this type, of which P holds, beside these globals
pub record ShownCall (m : Module) (called : Option FuncType) (shown : List Value) (P : FuncType → Type 0) : Type 0 where
  pub type : FuncType
  pub named : called ≡ Some type
  pub values : P type
  pub globals : GlobalsFit m shown

-- a function of 1.0 returns the first flattened result alone
abbrev pub ResultsFit : Module → List Value → Marks → FuncType → Type 0
ResultsFit m results marks type =
    ValuesHaveTypes1 results (take 1 (flat type.results)) × MarksFit m type marks.exception marks

-- an event that a lowered module may show: exceptions and full stores are shown by marks alone
abbrev pub FitsEvent : Module → Script → Event → Type 0
FitsEvent m s (events.HostCall j arguments globals) =
    ShownCall m (imported_type m j) globals (λ type. ValuesHaveTypes1 arguments (flat type.params))
FitsEvent m s (events.Returned i results globals) = ShownCall m (called_type m s i) globals (ResultsFit m results (marks_of m globals))
FitsEvent m s (events.Trapped i globals) = ShownCall m (called_type m s i) globals (λ type. Unit {0})
FitsEvent m s (events.Uncaught i tag payload globals) = ⊥
FitsEvent m s events.Full = ⊥
FitsEvent m s _ = Unit {0}

-- a fact on what follows an event, unless nothing does
abbrev pub UnlessFull : Event → Type 0 → Type 0
UnlessFull events.Full Fact = Unit {0}
UnlessFull _ Fact = Fact

-- each event up to the first that unmaps to a full store of captured exceptions may be shown by a lowered module
abbrev pub FitEvents : Module → Script → List Event → Type 0
FitEvents m s [] = Unit {0}
FitEvents m s (event ∷ more) = FitsEvent m s event × UnlessFull (unmap_event m s event) (FitEvents m s more)
