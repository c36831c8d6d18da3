-- The whole run of a script over a module of 1.0: instantiation, the start function, and the items ("Modules" of chapter 4
-- of 1.0, "Instantiation" and "Invocation").
use Rattle.std.specs.Prelude.{ℕ, ◌+◌, List, [], ◌∷◌, ◌++◌, map, reverse, Option, Some, None}
use Rattle.host_kit.specs.Offered1.{exported1}
use Rattle.host_kit.specs.Trace.{Mark}
use Rattle.host_kit.specs.declared.event.Event.TheVariants as events
use Rattle.host_kit.specs.declared.script.Item.{Item}
use Rattle.host_kit.specs.declared.script.Item.TheVariants.{Call, Host}
use Rattle.host_kit.specs.declared.script.Script.{Script}
use Rattle.host_kit.specs.declared.value.Value.{Value}
use Rattle.core1_ast.specs.declared.module.parts.ExportDesc1.{ExportDesc1}
use Rattle.core1_ast.specs.declared.module.parts.ExportDesc1.TheVariants.{Func}
use Rattle.core1_ast.specs.declared.module.parts.Module1.{Module1}
use Rattle.evaluation_kit.specs.declared.jump.Jump.TheVariants.{Trap, NoReply}
use Rattle.outcome_kit.specs.Code.{Go, Leave}
use Rattle.evaluation_kit.specs.Configurations.{World, PlainRes}
use Rattle.evaluation_kit.specs.Languages.{func}
use Rattle.evaluation_kit.specs.Tasks.{Status, Task, Change, Enter, world_after}
use Rattle.meaning_core1.specs.declared.val1.Val1.{Val1}
use Rattle.meaning_core1.specs.Store.{Store1, State1, in_store, show, host_value, value_from}
use Rattle.meaning_core1.specs.Hosting.{exported_values, act1}
use Rattle.meaning_core1.specs.Instances.{new_state1, with_segments}
use Rattle.meaning_core1.specs.Language.{language1}

-- segments that do not all fit end the run
abbrev pub segments_status : State1 → Option Store1 → Status State1
segments_status s None = Leave Trap (show events.Failed s)
segments_status s (Some store) = Go (in_store store s)

-- the end of the start function: what is not its end ends the run
abbrev pub start_status : PlainRes Val1 State1 → Status State1
start_status (Go p) = Go p.state
start_status (Leave (NoReply x) p) = Leave (NoReply x) (show (events.NoReply x) p.state)
start_status (Leave jump p) = Leave Trap (show events.Failed p.state)

abbrev pub start1 : Option ℕ → List (Task Val1 State1)
start1 None = []
start1 (Some x) = Enter x [] start_status ∷ []

-- what the host sees of the call of an item: a trap ends it, and the next item follows
abbrev pub show_trap : Module1 → ℕ → State1 → State1
show_trap m i s = show (events.Trapped i (exported_values m s)) s

abbrev pub call_status : Module1 → ℕ → PlainRes Val1 State1 → Status State1
call_status m i (Go p) = Go (show (events.Returned i (map host_value (reverse p.operands)) (exported_values m p.state)) p.state)
call_status m i (Leave (NoReply x) p) = Leave (NoReply x) (show (events.NoReply x) p.state)
call_status m i (Leave jump p) = Go (show_trap m i p.state)

-- an item at a place of the script; a call of what is no exported function traps, which no fitting script has
abbrev pub call1_task : Module1 → ℕ → Option ExportDesc1 → List Value → Task Val1 State1
call1_task m i (Some (Func x)) arguments = Enter x (reverse (map value_from arguments)) (call_status m i)
call1_task m i _ arguments = Change (λ s. Go (show_trap m i s))

abbrev pub item1 : Module1 → ℕ → Item → Task Val1 State1
item1 m i (Call name arguments) = call1_task m i (exported1 m name) arguments
item1 m i (Host a) = Change (λ s. Go (act1 m a s))

abbrev pub items1 : Module1 → ℕ → List Item → List (Task Val1 State1)
items1 m i [] = Change (λ s. Go (show events.Done s)) ∷ []
items1 m i (item ∷ more) = item1 m i item ∷ items1 m (i + 1) more

-- all that the host does: it instantiates the module, which runs its start function, and then does the items
abbrev pub tasks1 : Module1 → Script → List (Task Val1 State1)
tasks1 m script =
    Change (λ s. segments_status s (with_segments m s.store)) ∷ (start1 m.start ++ (Change (λ s. Go (show events.Started s)) ∷ items1 m 0 script.items))

-- the world after the run within so many turns
abbrev pub end1 : Module1 → Script → ℕ → World State1
end1 m script n = world_after (func (language1 m)) (tasks1 m script) (new_state1 m script) n

-- what the run leaves behind, and how many calls of functions of the module were open at once, at most
unfoldable pub trace1 : Module1 → Script → ℕ → List Mark
trace1 m script n = (end1 m script n).state.trace

unfoldable pub depth1 : Module1 → Script → ℕ → ℕ
depth1 m script n = (end1 m script n).deepest
