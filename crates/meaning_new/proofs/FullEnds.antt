-- A run that Full left shows a full store of captures once, at its end.
use Rattle.std.proofs.Common.{◌≡◌, ℕ, ◌-◌, List, [], ◌∷◌, ◌++◌, map, ◌⊎◌, inl, inr, refl, sym, ap, ◌∙◌, subst, le_refl}
use Rattle.std.specs.List.{AllByRecursion}
use Rattle.host_kit.specs.Trace.{Mark, Shows, Captured}
use Rattle.host_kit.specs.declared.event.Event.{Event}
use Rattle.host_kit.specs.declared.event.Event.TheVariants as events
use Rattle.host_kit.specs.declared.script.Script.{Script}
use Rattle.wasm_ast.specs.declared.module.parts.Module.{Module}
use Rattle.evaluation_kit.specs.declared.jump.Jump.{Jump}
use Rattle.evaluation_kit.specs.declared.jump.Jump.TheVariants.{Full}
use Rattle.outcome_kit.specs.Outcome.{Out, Done, Halt, after, bind}
use Rattle.outcome_kit.specs.Code.{Go, Leave, go_on, stands}
use Rattle.evaluation_kit.specs.Configurations.{World, Plain, PlainRes, Res}
use Rattle.evaluation_kit.specs.Languages.{func}
use Rattle.evaluation_kit.specs.Tasks.{Status, Task, Change, Enter, placed, plain_result, shown, task, tasks}
use Rattle.evaluation_kit.proofs.Closure.{res_place}
use Rattle.evaluation_kit.proofs.Functions.{func_related}
use Rattle.evaluation_kit.proofs.Growing.{state_after}
use Rattle.evaluation_kit.proofs.Invariants.{Leaves, keeping}
use Rattle.evaluation_kit.proofs.TaskLaws.{status_state}
use Rattle.meaning_new.specs.declared.val.Val.{Val}
use Rattle.meaning_new.specs.Store.{State, tell}
use Rattle.meaning_new.specs.Language.{language}
use Rattle.meaning_new.specs.Runs.{run_tasks}
use Rattle.meaning_new.specs.RunLaws.{Stopped}
use Rattle.meaning_new.proofs.Even.{NotFull, Even, LeavesNotFull}
use Rattle.meaning_new.proofs.Bounds.{clean, Clean, Beyond}
use Rattle.meaning_new.proofs.Owed.{owes_clean}
use Rattle.meaning_new.proofs.HostTasks.{StatusNotFull, EvenShown, TaskIs, tasks_are, full_or_not}

-- the trace shows a full store once, at its end
pub record Once (s : State) : Type 0 where
  pub front : List Mark
  pub clean : AllByRecursion NotFull front
  pub whole : s.trace ≡ front ++ Shows events.Full ∷ []

abbrev pub OnceAt : Jump → State → Type 0
OnceAt Full s = Once s
OnceAt j s = Unit {0}

abbrev StatusEnds : Status State → Type 0
StatusEnds (Go s) = Clean s
StatusEnds (Leave j s) = OnceAt j s

-- a run goes on with no full store shown, and shows one where Full ends it
abbrev pub Ends : Out (World State) (Status (World State)) → Type 0
Ends (Done u (Go w)) = Clean w.state
Ends (Done u (Leave j w)) = OnceAt j w.state
Ends (Halt w) = Unit {0}

not_full_once : (j : Jump) (s : State) → (j ≡ Full → ⊥) → OnceAt j s
not_full_once Full s h = absurd (h refl)
not_full_once j s h = tt

ends_after : (u : ℕ) (o : Out (World State) (Status (World State))) → Ends o → Ends (after u o)
ends_after u (Done v (Go w)) h = h
ends_after u (Done v (Leave j w)) h = h
ends_after u (Halt w) h = tt

placed_ends : (w : World State) (r : Status State) → StatusEnds r → Ends (Done 0 (placed w r))
placed_ends w (Go s) h = h
placed_ends w (Leave j s) h = h

status_ends : (s : State) (r : Status State) → Even s (status_state r) → StatusNotFull r → Clean s → StatusEnds r
status_ends s (Go t) e n h = e.not_full h
status_ends s (Leave j t) e n h = not_full_once j t n

-- what the host shows of the result of a call
seen_ends : (see : PlainRes Val State → Status State) → EvenShown see → (r : PlainRes Val State) → Clean (state_after r) → LeavesNotFull r ⊎ ((p : Plain Val State) × (r ≡ Leave Full p)) → StatusEnds (see r)
seen_ends see h r k (inl n) = status_ends (state_after r) (see r) (h.other r n).even (h.other r n).not_full k
seen_ends see h r k (inr e) =
    let there : Clean e.0.state = subst (λ x. Clean (state_after x)) e.1 k in
    let told : Once (tell events.Full e.0.state) = record { front = e.0.state.trace; clean = there; whole = refl } in
    subst (λ x. StatusEnds (see x)) (sym e.1) (subst (λ x. StatusEnds x) (sym (h.full e.0)) told)

result_clean : (u : ℕ) (r : Res Val State) → Leaves clean (res_place {V = Val}) (Done u r) → Clean (state_after (plain_result r))
result_clean u (Go c) h = h.always
result_clean u (Leave j c) h = h.always

call_ends : (see : PlainRes Val State → Status State) → EvenShown see → (n : ℕ) (o : Out (World State) (Res Val State)) → Leaves clean (res_place {V = Val}) o → Ends (bind n o (λ r m. Done 0 (shown see r)))
call_ends see h n (Done u r) k =
    ends_after u (Done 0 (shown see r)) (placed_ends (stands r).world (see (plain_result r)) (seen_ends see h (plain_result r) (result_clean u r k) (full_or_not (plain_result r))))
call_ends see h n (Halt w) k = tt

-- the tasks in order
module _ (m : Module) where
  call_clean : (x n : ℕ) (operands : List Val) (w : World State) → Clean w.state → Leaves clean (res_place {V = Val}) (func (language m) x 0 n (record { operands = operands; locals = []; world = w }))
  unfolding keeping
  call_clean x n operands w h =
      ((func_related (language m) (keeping clean) (owes_clean m) n x).from 0 (record { operands = operands; locals = []; world = w })).by w n (le_refl n) (record { always = h; at_jump = tt })

  task_ends : (t : Task Val State) → TaskIs t → (n : ℕ) (w : World State) → Clean w.state → Ends (task (func (language m)) t n w)
  task_ends (Change f) h n w k = placed_ends w (f w.state) (status_ends w.state (f w.state) (h.change w.state).even (h.change w.state).not_full k)
  task_ends (Enter x operands see) h n w k =
      call_ends see h n (func (language m) x 0 n (record { operands = operands; locals = []; world = w })) (call_clean x n operands w k)

  rest_ends : (n : ℕ) (o : Out (World State) (Status (World State))) (next : ℕ → World State → Out (World State) (Status (World State))) → ((i : ℕ) (v : World State) → Clean v.state → Ends (next i v)) → Ends o → Ends (bind n o (go_on next))
  rest_ends n (Done u (Go v)) next h k = ends_after u (next (n - u) v) (h (n - u) v k)
  rest_ends n (Done u (Leave j v)) next h k = k
  rest_ends n (Halt w) next h k = tt

  all_end : (ts : List (Task Val State)) → AllByRecursion TaskIs ts → (n : ℕ) (w : World State) → Clean w.state → Ends (tasks (func (language m)) ts n w)
  all_end [] h n w k = k
  all_end (t ∷ ts) h n w k = rest_ends n (task (func (language m)) t n w) (tasks (func (language m)) ts) (all_end ts h.1) (task_ends t h.0 n w k)

  pub run_ends : (script : Script) (n : ℕ) (w : World State) → Clean w.state → Ends (tasks (func (language m)) (run_tasks m script) n w)
  run_ends script n w k = all_end (run_tasks m script) (tasks_are m script) n w k

-- of two fronts that show no full store, before one that is shown, each is the other
same_front : (xs ys : List Mark) (fulls : List Event) → AllByRecursion NotFull xs → AllByRecursion NotFull ys → AllByRecursion (λ e. e ≡ events.Full) fulls → xs ++ Shows events.Full ∷ [] ≡ ys ++ map Shows fulls → xs ≡ ys
same_front [] [] fulls a b f e = refl
same_front [] (y ∷ ys) fulls a b f e = absurd (b.0 (cc e))
same_front (x ∷ xs) [] [] a b f e = absurd cc
same_front (x ∷ xs) [] (event ∷ more) a b f e = let same = f.0 in absurd (a.0 (cc (e, same)))
same_front (x ∷ xs) (y ∷ ys) fulls a b f e =
    let head : x ≡ y = cc e in
    let tail : xs ++ Shows events.Full ∷ [] ≡ ys ++ map Shows fulls = cc e in
    let rest = same_front xs ys fulls a.1 b.1 f tail in
    cc (head, rest)

front_clean : (xs ys : List Mark) → AllByRecursion NotFull (xs ++ ys) → AllByRecursion NotFull xs
front_clean [] ys h = tt
front_clean (x ∷ xs) ys h = (h.0, front_clean xs ys h.1)

-- a bounded run that Full left, and a run without bounds that is further on
pub full_stops : (s t : State) → Once s → Beyond s t → Clean t → Stopped s.trace t.trace
full_stops s t once p free =
    let longer : AllByRecursion NotFull ((p.before ++ Captured ∷ []) ++ p.further.0) = subst (λ l. AllByRecursion NotFull l) (sym p.further.1) free in
    let before = front_clean p.before (Captured ∷ []) (front_clean (p.before ++ Captured ∷ []) p.further.0 longer) in
    let same = same_front once.front p.before p.fulls once.clean before p.all_full (sym once.whole ∙ p.stopped) in
    record { before = p.before; stopped = once.whole ∙ ap (λ l. l ++ Shows events.Full ∷ []) same; further = p.further }
