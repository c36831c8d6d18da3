-- The whole run of a script: instantiation, the start function, and the items ("Modules" of chapter 4, "Instantiation"
-- and "Invocation").
use Rattle.std.specs.Prelude.{ℕ, ◌+◌, Bool, true, false, List, [], ◌∷◌, ◌++◌, map, reverse, slice_get, Option, Some, None}
use Rattle.host_kit.specs.Offered.{exported}
use Rattle.host_kit.specs.Trace.{Mark}
use Rattle.host_kit.specs.declared.event.Event.TheVariants as events
use Rattle.host_kit.specs.declared.script.Item.{Item}
use Rattle.host_kit.specs.declared.script.Item.TheVariants.{Call, Host}
use Rattle.host_kit.specs.declared.script.Script.{Script}
use Rattle.host_kit.specs.declared.value.Value.{Value}
use Rattle.wasm_ast.specs.declared.module.parts.ExportDesc.{ExportDesc}
use Rattle.wasm_ast.specs.declared.module.parts.ExportDesc.TheVariants.{Func}
use Rattle.wasm_ast.specs.declared.module.parts.Module.{Module}
use Rattle.evaluation_kit.specs.declared.jump.Jump.TheVariants.{Trap, Throw, NoReply, Full, Stuck}
use Rattle.outcome_kit.specs.Code.{Go, Leave}
use Rattle.evaluation_kit.specs.Configurations.{World, PlainRes}
use Rattle.evaluation_kit.specs.Languages.{func}
use Rattle.evaluation_kit.specs.Tasks.{Status, Task, Change, Enter, world_after}
use Rattle.meaning_new.specs.declared.val.Val.{Val}
use Rattle.meaning_new.specs.Store.{Store, State, Exception, tell, to_host, from_host, with_store}
use Rattle.meaning_new.specs.Host.{global_values, act}
use Rattle.meaning_new.specs.Instances.{new_state, place_segments}
use Rattle.meaning_new.specs.Language.{language}

-- segments that do not fit end the run
abbrev pub instantiated : State → Option Store → Status State
instantiated s None = Leave Trap (tell events.Failed s)
instantiated s (Some store) = Go (with_store store s)

-- the end of the start function: what is not its end ends the run
abbrev pub started : PlainRes Val State → Status State
started (Go p) = Go p.state
started (Leave (NoReply x) p) = Leave (NoReply x) (tell (events.NoReply x) p.state)
started (Leave Full p) = Leave Full (tell events.Full p.state)
started (Leave Stuck p) = Leave Stuck p.state
started (Leave jump p) = Leave Trap (tell events.Failed p.state)

abbrev pub start_task : Option ℕ → List (Task Val State)
start_task None = []
start_task (Some x) = Enter x [] started ∷ []

-- what the host sees of the call of an item: a trap or an exception ends it, and the next item follows
abbrev pub trapped : Module → ℕ → State → State
trapped m i s = tell (events.Trapped i (global_values m s)) s

abbrev pub uncaught : Module → ℕ → Option Exception → State → State
uncaught m i None s = trapped m i s
uncaught m i (Some x) s = tell (events.Uncaught i x.tag (map to_host (reverse x.payload)) (global_values m s)) s

abbrev pub answered : Module → ℕ → PlainRes Val State → Status State
answered m i (Go p) = Go (tell (events.Returned i (map to_host (reverse p.operands)) (global_values m p.state)) p.state)
answered m i (Leave (Throw e) p) = Go (uncaught m i (slice_get p.state.store.exceptions e) p.state)
answered m i (Leave (NoReply x) p) = Leave (NoReply x) (tell (events.NoReply x) p.state)
answered m i (Leave Full p) = Leave Full (tell events.Full p.state)
answered m i (Leave Stuck p) = Leave Stuck p.state
answered m i (Leave jump p) = Go (trapped m i p.state)

-- an item at a place of the script; a call of what is no exported function traps, which no fitting script has
abbrev pub call_task : Module → ℕ → Option ExportDesc → List Value → Task Val State
call_task m i (Some (Func x)) arguments = Enter x (reverse (map from_host arguments)) (answered m i)
call_task m i _ arguments = Change (λ s. Go (trapped m i s))

abbrev pub item_task : Module → ℕ → Item → Task Val State
item_task m i (Call name arguments) = call_task m i (exported m name) arguments
item_task m i (Host a) = Change (λ s. Go (act m a s))

abbrev pub item_tasks : Module → ℕ → List Item → List (Task Val State)
item_tasks m i [] = Change (λ s. Go (tell events.Done s)) ∷ []
item_tasks m i (item ∷ more) = item_task m i item ∷ item_tasks m (i + 1) more

-- all that the host does: it instantiates the module, which runs its start function, and then does the items
abbrev pub run_tasks : Module → Script → List (Task Val State)
run_tasks m script =
    Change (λ s. instantiated s (place_segments m s.store)) ∷ (start_task m.start ++ (Change (λ s. Go (tell events.Started s)) ∷ item_tasks m 0 script.items))

-- the world after the run within so many turns, and within bounds
abbrev pub end_within : (List ℕ → Bool) → (ℕ → Bool) → Module → Script → ℕ → World State
end_within permits room m script n = world_after (func (language m)) (run_tasks m script) (new_state permits room false m script) n

-- what the run leaves behind, and how many calls of functions of the module were open at once, at most
unfoldable pub trace : Module → Script → ℕ → List Mark
trace m script n = (end_within (λ sizes. true) (λ k. true) m script n).state.trace

unfoldable pub depth : Module → Script → ℕ → ℕ
depth m script n = (end_within (λ sizes. true) (λ k. true) m script n).deepest

-- the same of the run in which growths come to these sizes alone, and in which there is room for so many captures
unfoldable pub bounded_trace : (List ℕ → Bool) → (ℕ → Bool) → Module → Script → ℕ → List Mark
bounded_trace permits room m script n = (end_within permits room m script n).state.trace

unfoldable pub bounded_depth : (List ℕ → Bool) → (ℕ → Bool) → Module → Script → ℕ → ℕ
bounded_depth permits room m script n = (end_within permits room m script n).deepest
