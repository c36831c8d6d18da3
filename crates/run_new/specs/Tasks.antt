-- The tasks of a host behind the segments, by the names that calls give them.
use Rattle.std.specs.Prelude.{ℕ, List, [], ◌∷◌, ◌++◌, map}
use Rattle.host_kit.specs.declared.script.Script.{Script}
use Rattle.host_kit.specs.declared.event.Event.TheVariants as events
use Rattle.typed_trees.specs.declared.module.TypedFn.{TypedFn}
use Rattle.typed_trees.specs.Typed.{module_of}
use Rattle.wasm_ast.specs.declared.module.parts.Module.{Module}
use Rattle.outcome_kit.specs.Code.{Go}
use Rattle.evaluation_kit.specs.Languages.{func}
use Rattle.evaluation_kit.specs.Tasks as tasks
use Rattle.meaning_new.specs.declared.val.Val.{Val}
use Rattle.meaning_new.specs.Store.{State, tell}
use Rattle.meaning_new.specs.Runs.{started, start_task, item_task, item_tasks}
use Rattle.run_kit.specs.Narrowing.{part_task}
use Rattle.run_new.specs.States.{Kept, unbounded}
use Rattle.run_new.specs.Nodes.{unbounded_language}
use Rattle.run_new.specs.declared.tasks.Task.{Task}
use Rattle.run_new.specs.declared.tasks.Task.TheVariants.{Start, Started, Item, Done}

abbrev pub state_task : Module → Task → tasks.Task Val State
state_task m (Start x) = tasks.Enter x [] started
state_task m Started = tasks.Change (λ s. Go (tell events.Started s))
state_task m (Item i item) = item_task m i item.now
state_task m Done = tasks.Change (λ s. Go (tell events.Done s))

abbrev pub task_of : Module × List TypedFn → Task → tasks.Task Val Kept
task_of p t = part_task unbounded (state_task (module_of p) t)

-- what a host does behind the segments, and the state in which that leaves a run
abbrev pub behind_segments : Module → Script → List (tasks.Task Val State)
behind_segments m script = start_task m.start ++ (tasks.Change (λ s. Go (tell events.Started s)) ∷ item_tasks m 0 script.items)

abbrev pub end_of : Module × List TypedFn → Script → Kept → ℕ → Kept
end_of p script k n = (tasks.world_after (func (unbounded_language (module_of p))) (map (part_task unbounded) (behind_segments (module_of p) script)) k n).state
