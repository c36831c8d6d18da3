-- The tasks of a host, by the names that calls give them.
use Rattle.std.specs.Prelude.{[]}
use Rattle.host_kit.specs.declared.event.Event.TheVariants as events
use Rattle.core1_ast.specs.declared.module.parts.Module1.{Module1}
use Rattle.outcome_kit.specs.Code.{Go}
use Rattle.evaluation_kit.specs.Tasks.{Task, Change, Enter}
use Rattle.meaning_core1.specs.declared.val1.Val1.{Val1}
use Rattle.meaning_core1.specs.Store.{State1, show}
use Rattle.meaning_core1.specs.Instances.{with_segments}
use Rattle.meaning_core1.specs.Runs.{segments_status, start_status, item1}
use Rattle.run_core1.specs.declared.tasks.Task1.{Task1}
use Rattle.run_core1.specs.declared.tasks.Task1.TheVariants.{Segments, Start, Started, Item, Done}

abbrev pub task_of : Module1 → Task1 → Task Val1 State1
task_of m Segments = Change (λ s. segments_status s (with_segments m s.store))
task_of m (Start x) = Enter x [] start_status
task_of m Started = Change (λ s. Go (show events.Started s))
task_of m (Item i item) = item1 m i item.now
task_of m Done = Change (λ s. Go (show events.Done s))
