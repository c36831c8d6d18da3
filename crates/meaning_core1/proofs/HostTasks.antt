-- What the host of a module of 1.0 does keeps to each law of runs.
use Rattle.std.proofs.Common.{◌≡◌, ℕ, ◌+◌, Bool, List, [], ◌∷◌, ◌++◌, Option, Some, None, refl, sym, ap, ◌∙◌}
use Rattle.std.specs.List.{AllByRecursion}
use Rattle.host_kit.specs.Offered1.{exported1}
use Rattle.host_kit.specs.Trace.{Shows, seen, answers}
use Rattle.host_kit.specs.declared.event.Event.{Event}
use Rattle.host_kit.specs.declared.event.Event.TheVariants as events
use Rattle.host_kit.specs.declared.script.Item.{Item}
use Rattle.host_kit.specs.declared.script.Item.TheVariants.{Call, Host}
use Rattle.host_kit.specs.declared.script.Script.{Script}
use Rattle.host_kit.specs.declared.value.Value.{Value}
use Rattle.core1_ast.specs.declared.module.parts.ExportDesc1.{ExportDesc1}
use Rattle.core1_ast.specs.declared.module.parts.ExportDesc1.TheVariants.{Func}
use Rattle.core1_ast.specs.declared.module.parts.Module1.{Module1}
use Rattle.evaluation_kit.specs.declared.jump.Jump.{Jump}
use Rattle.evaluation_kit.specs.declared.jump.Jump.TheVariants as jumps
use Rattle.outcome_kit.specs.Code.{Go, Leave}
use Rattle.evaluation_kit.specs.Configurations.{PlainRes}
use Rattle.evaluation_kit.specs.Tasks.{Status, Task, Change, Enter}
use Rattle.evaluation_kit.proofs.Growing.{state_after}
use Rattle.evaluation_kit.proofs.Invariants.{PlainAfter}
use Rattle.evaluation_kit.proofs.Replaying.{freed_plain}
use Rattle.evaluation_kit.proofs.TaskLaws.{status_state, TaskLeads, TaskKeeps, StatusAfter, TaskReplays, freed_status}
use Rattle.meaning_core1.specs.declared.val1.Val1.{Val1}
use Rattle.meaning_core1.specs.Store.{Store1, State1, in_store, show}
use Rattle.meaning_core1.specs.Instances.{with_segments}
use Rattle.meaning_core1.specs.Runs.{segments_status, start_status, start1, call_status, call1_task, item1, items1, tasks1}
use Rattle.meaning_core1.proofs.Even.{NoCapture, answering_with, no_more, Even, even_itself, even_same, even_show, order, clean, answering, act_step}

-- a status that the host makes of a state, under these answers and under others
record StatusHere (s : State1) (here : Status State1) (there : List Bool → Status State1) : Type 0 where
  even : Even s (status_state here)
  again : (g : List Bool) → there g ≡ freed_status answering g here

record EvenChange (f : State1 → Status State1) : Type 0 where
  change : (s : State1) → StatusHere s (f s) (λ g. f (answering_with g s))

record EvenShown (see : PlainRes Val1 State1 → Status State1) : Type 0 where
  shown : (r : PlainRes Val1 State1) → StatusHere (state_after r) (see r) (λ g. see (freed_plain answering g r))

abbrev TaskIs : Task Val1 State1 → Type 0
TaskIs (Change f) = EvenChange f
TaskIs (Enter x operands see) = EvenShown see

-- the tasks of a run
shown_here : (e : Event) (s : State1) → NoCapture (Shows e) → StatusHere s (Go (show e s)) (λ g. Go (show e (answering_with g s)))
shown_here e s other = record { even = even_show e s other; again = λ g. refl }

left_here : (j : Jump) (e : Event) (s : State1) → NoCapture (Shows e) → StatusHere s (Leave j (show e s)) (λ g. Leave j (show e (answering_with g s)))
left_here j e s other = record { even = even_show e s other; again = λ g. refl }

same_here : (s : State1) → StatusHere s (Go s) (λ g. Go (answering_with g s))
same_here s = record { even = even_itself s; again = λ g. refl }

segments_here : (o : Option Store1) (s : State1) → StatusHere s (segments_status s o) (λ g. segments_status (answering_with g s) o)
segments_here None s = left_here jumps.Trap events.Failed s tt
segments_here (Some store) s = record { even = even_same s (in_store store s) refl; again = λ g. refl }

started_here : (r : PlainRes Val1 State1) → StatusHere (state_after r) (start_status r) (λ g. start_status (freed_plain answering g r))
started_here (Go p) = same_here p.state
started_here (Leave (jumps.NoReply x) p) = left_here (jumps.NoReply x) (events.NoReply x) p.state tt
started_here (Leave j p) = left_here jumps.Trap events.Failed p.state tt

called_here : (m : Module1) (i : ℕ) (r : PlainRes Val1 State1) → StatusHere (state_after r) (call_status m i r) (λ g. call_status m i (freed_plain answering g r))
called_here m i (Go p) = shown_here _ p.state tt
called_here m i (Leave (jumps.NoReply x) p) = left_here (jumps.NoReply x) (events.NoReply x) p.state tt
called_here m i (Leave j p) = shown_here _ p.state tt

call_is : (m : Module1) (i : ℕ) (o : Option ExportDesc1) (arguments : List Value) → TaskIs (call1_task m i o arguments)
call_is m i (Some (Func x)) arguments = record { shown = called_here m i }
call_is m i (Some _) arguments = record { change = λ s. shown_here _ s tt }
call_is m i None arguments = record { change = λ s. shown_here _ s tt }

item_is : (m : Module1) (i : ℕ) (item : Item) → TaskIs (item1 m i item)
item_is m i (Call name arguments) = call_is m i (exported1 m name) arguments
item_is m i (Host a) = record {
  change = λ s. record { even = (act_step m a).even s; again = λ g. ap (λ t. Go t) ((act_step m a).again g s) };
}

items_are : (m : Module1) (i : ℕ) (items : List Item) → AllByRecursion TaskIs (items1 m i items)
items_are m i [] = (record { change = λ s. shown_here events.Done s tt }, tt)
items_are m i (item ∷ more) = (item_is m i item, items_are m (i + 1) more)

begun_are : (m : Module1) (script : Script) (o : Option ℕ) → AllByRecursion TaskIs (start1 o ++ (Change (λ s. Go (show events.Started s)) ∷ items1 m 0 script.items))
begun_are m script None = (record { change = λ s. shown_here events.Started s tt }, items_are m 0 script.items)
begun_are m script (Some x) = (record { shown = started_here }, (record { change = λ s. shown_here events.Started s tt }, items_are m 0 script.items))

tasks_are : (m : Module1) (script : Script) → AllByRecursion TaskIs (tasks1 m script)
tasks_are m script = (record { change = λ s. segments_here (with_segments m s.store) s }, begun_are m script m.start)

pub each : {A : Type 0} (P Q : A → Type 0) → ((a : A) → P a → Q a) → (l : List A) → AllByRecursion P l → AllByRecursion Q l
each P Q f [] h = tt
each P Q f (a ∷ more) h = (f a h.0, each P Q f more h.1)

-- states lead on
leads : (t : Task Val1 State1) → TaskIs t → TaskLeads order t
leads (Change f) h = λ s. (h.change s).even.begins
leads (Enter x operands see) h = λ r. (h.shown r).even.begins

pub tasks_lead : (m : Module1) (script : Script) → AllByRecursion (TaskLeads order) (tasks1 m script)
tasks_lead m script = each TaskIs (TaskLeads order) leads (tasks1 m script) (tasks_are m script)

-- nothing is captured
status_clean : (r : Status State1) → AllByRecursion NoCapture (status_state r).trace → StatusAfter clean r
status_clean (Go s) h = h
status_clean (Leave j s) h = record { always = h; at_jump = tt }

clean_plain : (r : PlainRes Val1 State1) → PlainAfter clean r → AllByRecursion NoCapture (state_after r).trace
clean_plain (Go p) h = h
clean_plain (Leave j p) h = h.always

stays_clean : (t : Task Val1 State1) → TaskIs t → TaskKeeps clean t
stays_clean (Change f) h = λ s k. status_clean (f s) ((h.change s).even.no_capture k)
stays_clean (Enter x operands see) h = λ r k. status_clean (see r) ((h.shown r).even.no_capture (clean_plain r k))

pub tasks_clean : (m : Module1) (script : Script) → AllByRecursion (TaskKeeps clean) (tasks1 m script)
tasks_clean m script = each TaskIs (TaskKeeps clean) stays_clean (tasks1 m script) (tasks_are m script)

-- the same under its own answers
replays : (t : Task Val1 State1) → TaskIs t → TaskReplays answering t
replays (Change f) h = record {
  leads = λ s. (h.change s).even.begins;
  again = λ s a t e.
      let none = no_more (answers (seen s.trace)) a (sym (h.change s).even.told ∙ e) in
      ap (λ l. f (answering_with (l ++ t) s)) none ∙ (h.change s).again t;
}
replays (Enter x operands see) h = record {
  leads = λ r. (h.shown r).even.begins;
  again = λ r a t e.
      let none = no_more (answers (seen (state_after r).trace)) a (sym (h.shown r).even.told ∙ e) in
      ap (λ l. see (freed_plain answering (l ++ t) r)) none ∙ (h.shown r).again t;
  ends = λ operands locals s v b. absurd b;
}

pub tasks_replay : (m : Module1) (script : Script) → AllByRecursion (TaskReplays answering) (tasks1 m script)
tasks_replay m script = each TaskIs (TaskReplays answering) replays (tasks1 m script) (tasks_are m script)
