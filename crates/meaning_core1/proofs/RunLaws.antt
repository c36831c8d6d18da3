-- The laws of runs of a module of 1.0, from those of tasks.
use Rattle.std.proofs.Common.{◌≡◌, ℕ, ◌≤◌, inl, inr, Bool, None, List, [], ◌∷◌, ◌++◌, refl, sym, ap, ◌∙◌, subst, Contains, le_refl}
use Rattle.std.specs.List.{AllByRecursion}
use Rattle.std.proofs.lemmas.List.Elements.{All-from_recursion}
use Rattle.host_kit.specs.Trace.{Mark, Shows, Grown, Captured, Begins, seen, answers, captured}
use Rattle.host_kit.specs.Scripts.{regrow}
use Rattle.host_kit.specs.declared.event.Event.TheVariants as events
use Rattle.host_kit.specs.declared.script.Script.{Script}
use Rattle.core1_ast.specs.declared.module.parts.Module1.{Module1}
use Rattle.outcome_kit.specs.Outcome.{Out, Done, Halt, place_of}
use Rattle.outcome_kit.specs.Code.{Go, Leave}
use Rattle.outcome_kit.proofs.Growing.{Extends}
use Rattle.evaluation_kit.specs.Configurations.{World}
use Rattle.evaluation_kit.specs.Languages.{func}
use Rattle.evaluation_kit.specs.Tasks.{Status, tasks}
use Rattle.evaluation_kit.proofs.Tasks.{OwesTask, status_place, status_at, tasks_related}
use Rattle.evaluation_kit.proofs.TaskLaws.{TaskLeads, growing_task, TaskKeeps, keeping_task, TaskReplays, replaying_task}
use Rattle.evaluation_kit.proofs.Growing.{Leads, leads_same, worlds, GrowsAt, growing}
use Rattle.evaluation_kit.proofs.Invariants.{Leaves, keeping}
use Rattle.evaluation_kit.proofs.Replaying.{ReplaysAt, Replayed, freed, free_world, replaying}
use Rattle.meaning_core1.specs.declared.val1.Val1.{Val1}
use Rattle.meaning_core1.specs.Store.{State1}
use Rattle.meaning_core1.specs.Instances.{new_state1}
use Rattle.meaning_core1.specs.Language.{language1}
use Rattle.meaning_core1.specs.Runs.{tasks1, trace1, depth1}
use Rattle.meaning_core1.proofs.Even.{NoCapture, order, clean, answering}
use Rattle.meaning_core1.proofs.Owed.{owes_growing, owes_clean, owes_replaying}
use Rattle.meaning_core1.proofs.HostTasks.{each, tasks_lead, tasks_clean, tasks_replay}

-- a run: its outcome, and where it begins
abbrev Outcome : Type 0
Outcome = Out (World State1) (Status (World State1))

abbrev out : Module1 → Script → ℕ → World State1 → Outcome
out m s n w = tasks (func (language1 m)) (tasks1 m s) n w

abbrev begin : Module1 → Script → World State1
begin m s = record { state = new_state1 m s; deepest = 0 }

-- runs lead on
run_grows : (m : Module1) (s : Script) (N : ℕ) (w : World State1) → GrowsAt order status_at N w (λ n. out m s n w)
unfolding growing
run_grows m s N w =
    tasks_related {V = Val1} (growing order) (language1 m) (owes_growing m) w N (tasks1 m s)
    (each (TaskLeads order) (OwesTask (growing order)) (growing_task order) (tasks1 m s) (tasks_lead m s)) w

places_lead : (o longer : Outcome) → Extends (worlds order) status_at o longer → Leads order (place_of status_at o) (place_of status_at longer)
places_lead (Done u r) longer e = subst (λ x. Leads order (status_at r) (place_of status_at x)) (sym e) (leads_same order (status_at r))
places_lead (Halt h) longer e = e

ends_lead : (m : Module1) (s : Script) (n k : ℕ) → n ≤ k → Leads order (place_of status_at (out m s n (begin m s))) (place_of status_at (out m s k (begin m s)))
ends_lead m s n k le =
    let w = begin m s in
    places_lead (out m s n w) (out m s k w) ((run_grows m s k w).extends n k le (le_refl k))

pub trace_goes_on : (m : Module1) (s : Script) (n k : ℕ) → n ≤ k → Begins (trace1 m s n) (trace1 m s k)
unfolding trace1
trace_goes_on m s n k le = (ends_lead m s n k le).state

pub depth_grows : (m : Module1) (s : Script) (n k : ℕ) → n ≤ k → depth1 m s n ≤ depth1 m s k
unfolding depth1
depth_grows m s n k le = (ends_lead m s n k le).deepest

-- nothing is captured
run_clean : (m : Module1) (s : Script) (n : ℕ) (w : World State1) → AllByRecursion NoCapture w.state.trace → Leaves clean status_place (out m s n w)
unfolding keeping
run_clean m s n w h =
    (tasks_related {V = Val1} (keeping clean) (language1 m) (owes_clean m) w n (tasks1 m s)
    (each (TaskKeeps clean) (OwesTask (keeping clean)) (keeping_task clean) (tasks1 m s) (tasks_clean m s))).by w n (le_refl n) (record { always = h; at_jump = tt })

place_clean : (o : Outcome) → Leaves clean status_place o → AllByRecursion NoCapture (place_of status_at o).state.trace
place_clean (Done u r) h = h.always
place_clean (Halt w) h = h.always

end_clean : (m : Module1) (s : Script) (n : ℕ) → AllByRecursion NoCapture (place_of status_at (out m s n (begin m s))).state.trace
end_clean m s n = place_clean (out m s n (begin m s)) (run_clean m s n (begin m s) tt)

none_captured : (marks : List Mark) → AllByRecursion NoCapture marks → captured marks ≡ 0
none_captured [] h = refl
none_captured (Shows e ∷ marks) h = none_captured marks h.1
none_captured (Grown ok sizes ∷ marks) h = none_captured marks h.1
none_captured (Captured ∷ marks) h = absurd h.0

pub captures_nothing : (m : Module1) (s : Script) (n : ℕ) → captured (trace1 m s n) ≡ 0
unfolding trace1
captures_nothing m s n = none_captured (place_of status_at (out m s n (begin m s))).state.trace (end_clean m s n)

pub never_full : (m : Module1) (s : Script) (n : ℕ) → Contains (trace1 m s n) (Shows events.Full) → ⊥
unfolding trace1
never_full m s n h =
    subst (λ mark. NoCapture mark) h.2
    (All-from_recursion NoCapture (place_of status_at (out m s n (begin m s))).state.trace (end_clean m s n) h.0 (Shows events.Full) h.1)

-- under its own answers
run_replays : (m : Module1) (s : Script) (n : ℕ) (w : World State1) → ReplaysAt answering status_place n None (λ v i. out m s i v) w
unfolding replaying
run_replays m s n w =
    tasks_related {V = Val1} (replaying answering) (language1 m) (owes_replaying m) w n (tasks1 m s)
    (each (TaskReplays answering) (OwesTask (replaying answering)) (replaying_task answering) (tasks1 m s) (tasks_replay m s)) w

freed_place : (t : List Bool) (o : Outcome) → place_of status_at (freed answering status_place t o) ≡ free_world answering t (place_of status_at o)
freed_place t (Done u (Go w)) = refl
freed_place t (Done u (Leave j w)) = refl
freed_place t (Halt w) = refl

-- no run is further on, since nothing is bounded
same_place : (t : List Bool) (o other : Outcome) → Replayed answering status_place t o other → place_of status_at other ≡ free_world answering t (place_of status_at o)
same_place t o other (inl e) = ap (place_of status_at) e ∙ freed_place t o
same_place t (Done u r) other (inr past) = absurd past.1
same_place t (Halt w) other (inr past) = absurd past

module _ (m : Module1) (s : Script) (n : ℕ) (more : List Bool) where
  replayed : place_of status_at (out m (regrow (answers (seen (place_of status_at (out m s n (begin m s))).state.trace) ++ more) s) n (begin m (regrow (answers (seen (place_of status_at (out m s n (begin m s))).state.trace) ++ more) s))) ≡ free_world answering more (place_of status_at (out m s n (begin m s)))
  replayed =
      same_place more (out m s n (begin m s)) _
      ((run_replays m s n (begin m s)).replays n (le_refl n) (answers (seen (place_of status_at (out m s n (begin m s))).state.trace)) more refl)

  pub trace_replays : trace1 m (regrow (answers (seen (trace1 m s n)) ++ more) s) n ≡ trace1 m s n
  unfolding trace1
  trace_replays = ap (λ (w : World State1). w.state.trace) replayed

  pub depth_replays : depth1 m (regrow (answers (seen (trace1 m s n)) ++ more) s) n ≡ depth1 m s n
  unfolding trace1 depth1
  depth_replays = ap (λ (w : World State1). w.deepest) replayed
