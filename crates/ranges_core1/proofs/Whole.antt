-- Every task of a run keeps what runs keep, and so what is told of the run is in range.
use Rattle.std.proofs.Common.{ℕ, ◌+◌, List, [], ◌∷◌, ◌++◌, map, reverse, Option, Some, None}
use Rattle.std.specs.List.{AllByRecursion}
use Rattle.host_kit.specs.Fits1.{ItemFits1, ScriptFits1}
use Rattle.host_kit.specs.Offered1.{exported1}
use Rattle.host_kit.specs.Trace.{events}
use Rattle.host_kit.specs.declared.event.Event.TheVariants as told
use Rattle.host_kit.specs.declared.script.Item.{Item}
use Rattle.host_kit.specs.declared.script.Item.TheVariants.{Call, Host}
use Rattle.host_kit.specs.declared.script.Script.{Script}
use Rattle.host_kit.specs.declared.value.Value.{Value}
use Rattle.core1_ast.specs.declared.module.parts.ExportDesc1.{ExportDesc1}
use Rattle.core1_ast.specs.declared.module.parts.ExportDesc1.TheVariants.{Func}
use Rattle.core1_ast.specs.declared.module.parts.Module1.{Module1}
use Rattle.evaluation_kit.specs.declared.jump.Jump.TheVariants as jumps
use Rattle.outcome_kit.specs.Code.{Go, Leave}
use Rattle.evaluation_kit.specs.Configurations.{PlainRes}
use Rattle.evaluation_kit.specs.Tasks.{Status, Task, Change}
use Rattle.meaning_core1.specs.declared.val1.Val1.{Val1}
use Rattle.meaning_core1.specs.Store.{Store1, State1, host_value, show}
use Rattle.meaning_core1.specs.Hosting.{exported_values}
use Rattle.meaning_core1.specs.Instances.{new_state1, with_segments}
use Rattle.meaning_core1.specs.Language.{language1}
use Rattle.meaning_core1.specs.Runs.{segments_status, start_status, start1, show_trap, call_status, call1_task, item1, items1, tasks1, trace1}
use Rattle.ranges_core1.specs.Ranges.{AreInRange, EventInRange, NumbersInRange}
use Rattle.ranges_core1.proofs.Lists.{IfThere}
use Rattle.ranges_core1.proofs.Tasks.{StatusSafe, TaskKeeps, run_safe}
use Rattle.ranges_core1.proofs.States.{ValueInRange, StoreInRange, StateInRange, events_in, show_in, put_in}
use Rattle.ranges_core1.proofs.Instructions.{Left}
use Rattle.ranges_core1.proofs.Hosts.{exported_in, seen_in, given_in, act_in}
use Rattle.ranges_core1.proofs.Functions.{callees_keep}
use Rattle.ranges_core1.proofs.Beginning.{values_fit, act_fits, new_state_in, segments_in}

abbrev Safe : Status State1 → Type 0
Safe r = StatusSafe ValueInRange StateInRange r

abbrev TaskIs : Task Val1 State1 → Type 0
TaskIs t = TaskKeeps ValueInRange StateInRange t

-- instantiation
segments_safe : (s : State1) (o : Option Store1) → IfThere StoreInRange o → StateInRange s → Safe (segments_status s o)
segments_safe s None h k = show_in told.Failed s tt k
segments_safe s (Some store) h k = put_in store s h k

start_safe : (r : PlainRes Val1 State1) → Left r → Safe (start_status r)
start_safe (Go p) h = h.state
start_safe (Leave (jumps.NoReply x) p) h = show_in (told.NoReply x) p.state tt h.state
start_safe (Leave j p) h = show_in told.Failed p.state tt h.state

-- calls
module _ (m : Module1) (i : ℕ) where
  trap_safe : (s : State1) → StateInRange s → StateInRange (show_trap m i s)
  trap_safe s h = show_in (told.Trapped i (exported_values m s)) s (exported_in m s h) h

  call_safe : (r : PlainRes Val1 State1) → Left r → Safe (call_status m i r)
  call_safe (Go p) h =
      show_in (told.Returned i (map host_value (reverse p.operands)) (exported_values m p.state)) p.state (seen_in p.operands h.operands, exported_in m p.state h.state) h.state
  call_safe (Leave (jumps.NoReply x) p) h = show_in (told.NoReply x) p.state tt h.state
  call_safe (Leave j p) h = trap_safe p.state h.state

  call_is : (o : Option ExportDesc1) (arguments : List Value) → AreInRange arguments → TaskIs (call1_task m i o arguments)
  call_is (Some (Func x)) arguments h = (given_in arguments h, call_safe)
  call_is (Some _) arguments h = trap_safe
  call_is None arguments h = trap_safe

  item_is : (item : Item) → ItemFits1 m item → TaskIs (item1 m i item)
  item_is (Call name arguments) h = call_is (exported1 m name) arguments (values_fit arguments h.type.params h.params)
  item_is (Host a) h = λ s k. act_in m a s (act_fits m a h) k

items_are : (m : Module1) (i : ℕ) (items : List Item) → AllByRecursion (ItemFits1 m) items → AllByRecursion TaskIs (items1 m i items)
items_are m i [] h = (λ s k. show_in told.Done s tt k, tt)
items_are m i (item ∷ more) h = (item_is m i item h.0, items_are m (i + 1) more h.1)

module _ (m : Module1) (script : Script) (numbers : NumbersInRange m) (fits : ScriptFits1 m script) where
  begun_are : (o : Option ℕ) → AllByRecursion TaskIs (start1 o ++ (Change (λ s. Go (show told.Started s)) ∷ items1 m 0 script.items))
  begun_are None = (λ s k. show_in told.Started s tt k, items_are m 0 script.items fits.items)
  begun_are (Some x) = ((tt, start_safe), (λ s k. show_in told.Started s tt k, items_are m 0 script.items fits.items))

  tasks_are : AllByRecursion TaskIs (tasks1 m script)
  tasks_are = (λ s k. segments_safe s (with_segments m s.store) (segments_in m s.store numbers k.store) k, begun_are m.start)

  pub shows_numbers_in_range : (n : ℕ) → AllByRecursion EventInRange (events (trace1 m script n))
  unfolding trace1
  shows_numbers_in_range n =
      events_in _
      (run_safe (language1 m) ValueInRange StateInRange (callees_keep m numbers.codes) (tasks1 m script) tasks_are (new_state1 m script) (new_state_in m script numbers fits) n).trace
