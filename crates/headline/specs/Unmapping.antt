-- How the events of a lowered module become events of the 3.0 module: this project's own mapping, event by event.
use Rattle.std.specs.Prelude.{ℕ, zero, suc, List, [], ◌∷◌, ◌++◌, map, Option, Some, None}
use Rattle.host_kit.specs.Fits.{results_of}
use Rattle.host_kit.specs.Trace.{Seen, Told, Answered}
use Rattle.host_kit.specs.declared.event.Event.{Event}
use Rattle.host_kit.specs.declared.event.Event.TheVariants as events
use Rattle.host_kit.specs.declared.script.Script.{Script}
use Rattle.host_kit.specs.declared.value.Value.{Value}
use Rattle.host_kit.specs.declared.value.Value.TheVariants as values
use Rattle.wasm_ast.specs.declared.module.parts.Module.{Module}
use Rattle.wasm_ast.specs.declared.module.ty.FuncType.{FuncType}
use Rattle.wasm_ast.specs.declared.module.ty.Ty.{Ty}
use Rattle.wasm_ast.specs.declared.module.ty.Ty.TheVariants as types
use Rattle.evaluation_kit.specs.Leaves.{top, below}
use Rattle.meaning_new.specs.Forms.{type_of_tag}
use Rattle.soundness.specs.Events.{imported_type, called_type}
use Rattle.headline.specs.Flattening.{word}
use Rattle.headline.specs.Marks.{Marks, own_globals, marks_of}

abbrev pub params_of : Option FuncType → List Ty
params_of None = []
params_of (Some type) = type.params

-- the reference that a word stands for: null is 0
abbrev pub reference : (ℕ → Value) → Value → ℕ → Value
reference make null zero = null
reference make null (suc n) = make n

-- Words grouped into values of these types. A word that is missing reads as 0, an exception does not meet the host, and
-- floats are outside the profile: so this is total
abbrev pub grouped : List Ty → List ℕ → List Value
grouped [] words = []
grouped (types.I64 ∷ more) words = values.I64 (top 0 words) ∷ grouped more (below words)
grouped (types.V128 ∷ more) words = values.V128 (top 0 words) (top 0 (below words)) ∷ grouped more (below (below words))
grouped (types.Func ∷ more) words = reference (λ x. values.Func x) values.NullFunc (top 0 words) ∷ grouped more (below words)
grouped (types.Extern ∷ more) words = reference (λ a. values.Extern a) values.NullExtern (top 0 words) ∷ grouped more (below words)
grouped (types.Exn ∷ more) words = values.NullExtern ∷ grouped more (below words)
grouped (_ ∷ more) words = values.I32 (top 0 words) ∷ grouped more (below words)

-- A call that returned: with results, of which those beyond the first stand in marks, or with an exception that was not
-- caught, whose payload does
abbrev pub unmap_return : Module → Option FuncType → ℕ → List ℕ → List Value → ℕ → Marks → Event
unmap_return m type i words own zero marks = events.Returned i (grouped (results_of type) (words ++ marks.further)) own
unmap_return m type i words own (suc tag) marks = events.Uncaught i tag (grouped (params_of (type_of_tag m tag)) marks.payload) own

-- a trap that stands for a full store of captured exceptions, where the mark is 1, or for itself
abbrev pub unmap_trap : ℕ → List Value → ℕ → Event
unmap_trap i own (suc zero) = events.Full
unmap_trap i own full = events.Trapped i own

-- arguments and results are grouped by the input's types, and only the input's own globals stay
abbrev pub unmap_event : Module → Script → Event → Event
unmap_event m s (events.HostCall j arguments globals) =
    events.HostCall j (grouped (params_of (imported_type m j)) (map word arguments)) (own_globals m globals)
unmap_event m s (events.Returned i results globals) =
    unmap_return m (called_type m s i) i (map word results) (own_globals m globals) (marks_of m globals).exception (marks_of m globals)
unmap_event m s (events.Trapped i globals) = unmap_trap i (own_globals m globals) (marks_of m globals).full
unmap_event m s event = event

-- nothing follows a full store of captured exceptions
abbrev pub followed : Event → List Seen → List Seen
followed events.Full more = Told events.Full ∷ []
followed event more = Told event ∷ more

-- what the host of the input sees, from what the host of the output sees; answers to growths stay where they are
abbrev pub unmap : Module → Script → List Seen → List Seen
unmap m s [] = []
unmap m s (Answered ok ∷ more) = Answered ok ∷ unmap m s more
unmap m s (Told event ∷ more) = followed (unmap_event m s event) (unmap m s more)
