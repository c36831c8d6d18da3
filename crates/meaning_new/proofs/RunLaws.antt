-- The laws of runs, from those of tasks.
use Rattle.std.proofs.Common.{◌≡◌, ℕ, ◌≤◌, ◌⊎◌, inl, inr, Bool, false, List, [], ◌∷◌, ◌++◌, Some, None, refl, sym, ap, ◌∙◌, subst, Contains, arith, le_refl, append-nil}
use Rattle.std.specs.Prelude.{nat_lt}
use Rattle.std.specs.List.{AllByRecursion}
use Rattle.std.proofs.lemmas.List.Elements.{All-from_recursion}
use Rattle.host_kit.specs.Trace.{Shows, Begins, seen, answers, captured, cut}
use Rattle.host_kit.proofs.Marks.{begins_same}
use Rattle.host_kit.specs.Scripts.{regrow}
use Rattle.host_kit.specs.declared.event.Event.TheVariants as events
use Rattle.host_kit.specs.declared.script.Script.{Script}
use Rattle.wasm_ast.specs.declared.module.parts.Module.{Module}
use Rattle.evaluation_kit.specs.declared.jump.Jump.{Jump}
use Rattle.evaluation_kit.specs.declared.jump.Jump.TheVariants.{Full}
use Rattle.outcome_kit.specs.Outcome.{Out, Done, Halt, place_of}
use Rattle.outcome_kit.specs.Code.{Go, Leave}
use Rattle.outcome_kit.proofs.Growing.{Extends}
use Rattle.evaluation_kit.specs.Configurations.{World}
use Rattle.evaluation_kit.specs.Languages.{func}
use Rattle.evaluation_kit.specs.Tasks.{Status, tasks}
use Rattle.evaluation_kit.proofs.Tasks.{OwesTask, status_place, status_at, tasks_related}
use Rattle.evaluation_kit.proofs.TaskLaws.{TaskLeads, growing_task, TaskKeeps, keeping_task, TaskReplays, replaying_task, TaskCuts, cutting_task}
use Rattle.evaluation_kit.proofs.Growing.{Leads, leads_same, worlds, GrowsAt, growing}
use Rattle.evaluation_kit.proofs.Invariants.{After, Leaves, keeping}
use Rattle.evaluation_kit.proofs.Replaying.{ReplaysAt, Replayed, freed, Past, free_world, replaying}
use Rattle.evaluation_kit.proofs.Cutting.{CutsAt, Cut, bounded, cutting}
use Rattle.meaning_new.specs.Store.{State}
use Rattle.meaning_new.specs.Instances.{new_state}
use Rattle.meaning_new.specs.Language.{language}
use Rattle.meaning_new.specs.Runs.{run_tasks, trace, depth, bounded_trace, bounded_depth}
use Rattle.meaning_new.specs.RunLaws.{Stopped}
use Rattle.meaning_new.proofs.Even.{NotFull}
use Rattle.meaning_new.proofs.Bounds.{order, roomy, Roomy, Clean, counted, Counted, answering, bounding, any_sizes, any_room}
use Rattle.meaning_new.proofs.Owed.{owes_growing, owes_roomy, owes_counted, owes_replaying, owes_cutting}
use Rattle.meaning_new.proofs.FullEnds.{Once, OnceAt, Ends, run_ends, full_stops}
use Rattle.meaning_new.proofs.HostTasks.{tasks_lead, tasks_roomy, tasks_counted, tasks_replay, tasks_cut}

-- a run: its outcome, and where it begins
abbrev out : Module → Script → ℕ → World State → Out (World State) (Status (World State))
out m s n w = tasks (func (language m)) (run_tasks m s) n w

abbrev begin : (List ℕ → Bool) → (ℕ → Bool) → Module → Script → World State
begin permits room m s = record { state = new_state permits room false m s; deepest = 0 }

each : {A : Type 0} (P Q : A → Type 0) → ((a : A) → P a → Q a) → (l : List A) → AllByRecursion P l → AllByRecursion Q l
each P Q f [] h = tt
each P Q f (a ∷ more) h = (f a h.0, each P Q f more h.1)

-- runs lead on
run_grows : (m : Module) (s : Script) (N : ℕ) (w : World State) → GrowsAt order status_at N w (λ n. out m s n w)
unfolding growing
run_grows m s N w =
    tasks_related (growing order) (language m) (owes_growing m) w N (run_tasks m s)
    (each (TaskLeads order) (OwesTask (growing order)) (growing_task order) (run_tasks m s) (tasks_lead m s)) w

places_lead : (o longer : Out (World State) (Status (World State))) → Extends (worlds order) status_at o longer → Leads order (place_of status_at o) (place_of status_at longer)
places_lead (Done u r) longer e = subst (λ x. Leads order (status_at r) (place_of status_at x)) (sym e) (leads_same order (status_at r))
places_lead (Halt h) longer e = e

ends_lead : (permits : List ℕ → Bool) (room : ℕ → Bool) (m : Module) (s : Script) (n k : ℕ) → n ≤ k → Leads order (place_of status_at (out m s n (begin permits room m s))) (place_of status_at (out m s k (begin permits room m s)))
ends_lead permits room m s n k le =
    let w = begin permits room m s in
    places_lead (out m s n w) (out m s k w) ((run_grows m s k w).extends n k le (le_refl k))

pub trace_goes_on : (m : Module) (s : Script) (n k : ℕ) → n ≤ k → Begins (trace m s n) (trace m s k)
unfolding trace
trace_goes_on m s n k le = (ends_lead any_sizes any_room m s n k le).state

pub bounded_goes_on : (permits : List ℕ → Bool) (room : ℕ → Bool) (m : Module) (s : Script) (n k : ℕ) → n ≤ k → Begins (bounded_trace permits room m s n) (bounded_trace permits room m s k)
unfolding bounded_trace
bounded_goes_on permits room m s n k le = (ends_lead permits room m s n k le).state

pub depth_grows : (m : Module) (s : Script) (n k : ℕ) → n ≤ k → depth m s n ≤ depth m s k
unfolding depth
depth_grows m s n k le = (ends_lead any_sizes any_room m s n k le).deepest

-- a run in which there is room for each capture is never full, and so is one without bounds
run_roomy : (m : Module) (s : Script) (n : ℕ) (w : World State) → Roomy w.state → Leaves roomy status_place (out m s n w)
unfolding keeping
run_roomy m s n w h =
    (tasks_related (keeping roomy) (language m) (owes_roomy m) w n (run_tasks m s)
    (each (TaskKeeps roomy) (OwesTask (keeping roomy)) (keeping_task roomy) (run_tasks m s) (tasks_roomy m s))).by w n (le_refl n) (record { always = h; at_jump = tt })

place_roomy : (o : Out (World State) (Status (World State))) → Leaves roomy status_place o → Roomy (place_of status_at o).state
place_roomy (Done u r) h = h.always
place_roomy (Halt w) h = h.always

begins_roomy : (permits : List ℕ → Bool) (m : Module) (s : Script) → Roomy (new_state permits any_room false m s)
begins_roomy permits m s = record { room = λ k. refl; clean = tt }

run_clean : (permits : List ℕ → Bool) (m : Module) (s : Script) (n : ℕ) → Clean (place_of status_at (out m s n (begin permits any_room m s))).state
run_clean permits m s n =
    let w = begin permits any_room m s in
    (place_roomy (out m s n w) (run_roomy m s n w (begins_roomy permits m s))).clean

pub roomy_not_full : (permits : List ℕ → Bool) (m : Module) (s : Script) (n : ℕ) → Contains (bounded_trace permits any_room m s n) (Shows events.Full) → ⊥
unfolding bounded_trace
roomy_not_full permits m s n h =
    let w = begin permits any_room m s in
    All-from_recursion NotFull (place_of status_at (out m s n w)).state.trace (run_clean permits m s n) h.0 (Shows events.Full) h.1 h.2

pub trace_not_full : (m : Module) (s : Script) (n : ℕ) → Contains (trace m s n) (Shows events.Full) → ⊥
unfolding trace
trace_not_full m s n h =
    let w = begin any_sizes any_room m s in
    All-from_recursion NotFull (place_of status_at (out m s n w)).state.trace (run_clean any_sizes m s n) h.0 (Shows events.Full) h.1 h.2

-- captures are counted
run_counted : (N : ℕ) (m : Module) (s : Script) (n : ℕ) (w : World State) → Counted N w.state → Leaves (counted N) status_place (out m s n w)
unfolding keeping
run_counted N m s n w h =
    (tasks_related (keeping (counted N)) (language m) (owes_counted N m) w n (run_tasks m s)
    (each (TaskKeeps (counted N)) (OwesTask (keeping (counted N))) (keeping_task (counted N)) (run_tasks m s) (tasks_counted N m s))).by w n (le_refl n) (record { always = h; at_jump = tt })

place_counted : (N : ℕ) (o : Out (World State) (Status (World State))) → Leaves (counted N) status_place o → Counted N (place_of status_at o).state
place_counted N (Done u r) h = h.always
place_counted N (Halt w) h = h.always

end_counted : (permits : List ℕ → Bool) (N : ℕ) (m : Module) (s : Script) (n : ℕ) → Counted N (place_of status_at (out m s n (begin permits (λ k. nat_lt k N) m s))).state
end_counted permits N m s n =
    let w = begin permits (λ k. nat_lt k N) m s in
    let few : 0 ≤ N = omega arith in
    place_counted N (out m s n w) (run_counted N m s n w (record { few = few; exact = inl tt; room = λ k. refl }))

pub captures_counted : (permits : List ℕ → Bool) (N : ℕ) (m : Module) (s : Script) (n : ℕ) → captured (bounded_trace permits (λ k. nat_lt k N) m s n) ≤ N
unfolding bounded_trace
captures_counted permits N m s n = (end_counted permits N m s n).few

pub full_after_all : (permits : List ℕ → Bool) (N : ℕ) (m : Module) (s : Script) (n : ℕ) → Contains (bounded_trace permits (λ k. nat_lt k N) m s n) (Shows events.Full) → captured (bounded_trace permits (λ k. nat_lt k N) m s n) ≡ N
unfolding bounded_trace
full_after_all permits N m s n h = by_case (end_counted permits N m s n).exact
  where
    by_case : AllByRecursion NotFull (place_of status_at (out m s n (begin permits (λ k. nat_lt k N) m s))).state.trace ⊎ (captured (place_of status_at (out m s n (begin permits (λ k. nat_lt k N) m s))).state.trace ≡ N) → captured (place_of status_at (out m s n (begin permits (λ k. nat_lt k N) m s))).state.trace ≡ N
    by_case (inl clean) = absurd (All-from_recursion NotFull (place_of status_at (out m s n (begin permits (λ k. nat_lt k N) m s))).state.trace clean h.0 (Shows events.Full) h.1 h.2)
    by_case (inr same) = same

-- under its own answers
run_replays : (m : Module) (s : Script) (n : ℕ) (w : World State) → ReplaysAt answering status_place n None (λ v i. out m s i v) w
unfolding replaying
run_replays m s n w =
    tasks_related (replaying answering) (language m) (owes_replaying m) w n (run_tasks m s)
    (each (TaskReplays answering) (OwesTask (replaying answering)) (replaying_task answering) (run_tasks m s) (tasks_replay m s)) w

freed_place : (t : List Bool) (o : Out (World State) (Status (World State))) → place_of status_at (freed answering status_place t o) ≡ free_world answering t (place_of status_at o)
freed_place t (Done u (Go w)) = refl
freed_place t (Done u (Leave j w)) = refl
freed_place t (Halt w) = refl

past_stops : (o free : Out (World State) (Status (World State))) → Ends o → Clean (place_of status_at free).state → Past answering status_place o free → Stopped (place_of status_at o).state.trace (place_of status_at free).state.trace
past_stops (Done u (Go w)) free h k p = let no : None ≡ Some Full = p.0 in absurd cc
past_stops (Done u (Leave j w)) free h k p = full_stops w.state (place_of status_at free).state (at_full j w.state h p.0) p.1 k
  where
    at_full : (i : Jump) (s : State) → OnceAt i s → Some i ≡ Some Full → Once s
    at_full Full s once e = once
    at_full i s once e = absurd cc
past_stops (Halt w) free h k p = absurd p

never_past : (o free : Out (World State) (Status (World State))) → Leaves roomy status_place o → Past answering status_place o free → ⊥
never_past (Done u (Go w)) free h p = let no : None ≡ Some Full = p.0 in absurd cc
never_past (Done u (Leave j w)) free h p = same_jump j w h p.0
  where
    same_jump : (i : Jump) (v : World State) → After roomy (Some i) v.state → Some i ≡ Some Full → ⊥
    same_jump Full v k e = k.at_jump
    same_jump i v k e = cc
never_past (Halt w) free h p = p

-- the same run, or one that stopped
module _ (permits : List ℕ → Bool) (room : ℕ → Bool) (m : Module) (s : Script) (n : ℕ) (more : List Bool) where
  bounded_out : Out (World State) (Status (World State))
  bounded_out = out m s n (begin permits room m s)

  own_answers : List Bool
  own_answers = answers (seen (place_of status_at (out m s n (begin permits room m s))).state.trace) ++ more

  free_out : Out (World State) (Status (World State))
  free_out = out m (regrow (answers (seen (place_of status_at (out m s n (begin permits room m s))).state.trace) ++ more) s) n (begin any_sizes any_room m (regrow (answers (seen (place_of status_at (out m s n (begin permits room m s))).state.trace) ++ more) s))

  replayed : Replayed answering status_place more bounded_out free_out
  unfolding bounded_out free_out
  replayed =
      (run_replays m s n (begin permits room m s)).replays n (le_refl n) (answers (seen (place_of status_at (out m s n (begin permits room m s))).state.trace)) more refl

  same_place : free_out ≡ freed answering status_place more bounded_out → place_of status_at free_out ≡ free_world answering more (place_of status_at bounded_out)
  same_place e = ap (place_of status_at) e ∙ freed_place more bounded_out

  bounded_ends : Ends bounded_out
  unfolding bounded_out
  bounded_ends = run_ends m s n (begin permits room m s) tt

  free_clean : Clean (place_of status_at free_out).state
  unfolding free_out
  free_clean =
      let own = regrow (answers (seen (place_of status_at (out m s n (begin permits room m s))).state.trace) ++ more) s in
      run_clean any_sizes m own n

  pub bounded_run : ((trace m (regrow (answers (seen (bounded_trace permits room m s n)) ++ more) s) n ≡ bounded_trace permits room m s n) × (depth m (regrow (answers (seen (bounded_trace permits room m s n)) ++ more) s) n ≡ bounded_depth permits room m s n)) ⊎ Stopped (bounded_trace permits room m s n) (trace m (regrow (answers (seen (bounded_trace permits room m s n)) ++ more) s) n)
  unfolding trace depth bounded_trace bounded_depth bounded_out free_out
  bounded_run = by_case replayed
    where
      by_case : Replayed answering status_place more bounded_out free_out → (((place_of status_at free_out).state.trace ≡ (place_of status_at bounded_out).state.trace) × ((place_of status_at free_out).deepest ≡ (place_of status_at bounded_out).deepest)) ⊎ Stopped (place_of status_at bounded_out).state.trace (place_of status_at free_out).state.trace
      by_case (inl e) = inl (ap (λ (w : World State). w.state.trace) (same_place e), ap (λ (w : World State). w.deepest) (same_place e))
      by_case (inr p) = inr (past_stops bounded_out free_out bounded_ends free_clean p)

-- without bounds a run never stops so
module _ (m : Module) (s : Script) (n : ℕ) (more : List Bool) where
  plain_place : place_of status_at (free_out any_sizes any_room m s n more) ≡ free_world answering more (place_of status_at (bounded_out any_sizes any_room m s n more))
  unfolding bounded_out free_out
  plain_place = by_case (replayed any_sizes any_room m s n more)
    where
      by_case : Replayed answering status_place more (bounded_out any_sizes any_room m s n more) (free_out any_sizes any_room m s n more) → place_of status_at (free_out any_sizes any_room m s n more) ≡ free_world answering more (place_of status_at (bounded_out any_sizes any_room m s n more))
      by_case (inl e) = same_place any_sizes any_room m s n more e
      by_case (inr p) = absurd (never_past (out m s n (begin any_sizes any_room m s)) (free_out any_sizes any_room m s n more) (run_roomy m s n (begin any_sizes any_room m s) (begins_roomy any_sizes m s)) p)

  pub trace_replays : trace m (regrow (answers (seen (trace m s n)) ++ more) s) n ≡ trace m s n
  unfolding trace bounded_out free_out
  trace_replays = ap (λ (w : World State). w.state.trace) plain_place

  pub depth_replays : depth m (regrow (answers (seen (trace m s n)) ++ more) s) n ≡ depth m s n
  unfolding trace depth bounded_out free_out
  depth_replays = ap (λ (w : World State). w.deepest) plain_place

-- the cut
module _ (permits : List ℕ → Bool) (room : ℕ → Bool) (m : Module) (s : Script) (n : ℕ) where
  run_cuts : (w : World State) → CutsAt (bounding permits room) status_place n (λ v i. out m s i v) w
  unfolding cutting
  run_cuts w =
      tasks_related (cutting (bounding permits room)) (language m) (owes_cutting permits room m) w n (run_tasks m s)
      (each (TaskCuts (bounding permits room)) (OwesTask (cutting (bounding permits room))) (cutting_task (bounding permits room)) (run_tasks m s) (tasks_cut permits room m s)) w

  bound_place : (o : Out (World State) (Status (World State))) → (place_of status_at (bounded (bounding permits room) status_place o)).state.trace ≡ (place_of status_at o).state.trace
  bound_place (Done u (Go w)) = refl
  bound_place (Done u (Leave j w)) = refl
  bound_place (Halt w) = refl

  cut_begins : (o other : Out (World State) (Status (World State))) → Cut (bounding permits room) status_place o other → Begins (cut permits room 0 (place_of status_at o).state.trace) (place_of status_at other).state.trace
  cut_begins o other (inl e) =
      subst (λ l. Begins l (place_of status_at other).state.trace) (sym e.0.whole)
      (subst (λ l. Begins (place_of status_at o).state.trace l) (sym (ap (λ (x : Out (World State) (Status (World State))). (place_of status_at x).state.trace) e.1 ∙ bound_place o)) (begins_same (place_of status_at o).state.trace))
  cut_begins o other (inr p) =
      subst (λ l. Begins (cut permits room 0 l) (place_of status_at other).state.trace) (append-nil (place_of status_at o).state.trace) (p.front [])

  pub trace_cut : Begins (cut permits room 0 (trace m s n)) (bounded_trace permits room m s n)
  unfolding trace bounded_trace
  trace_cut =
      cut_begins (out m s n (begin any_sizes any_room m s)) (out m s n (begin permits room m s))
      ((run_cuts (begin any_sizes any_room m s)).cuts (record { sizes = λ l. refl; captures = λ k. refl; whole = refl }) n (le_refl n))
