-- The tasks of a script that fits: what asks for types does the same as what does not, and states stay typed.
use Rattle.std.proofs.Common.{◌≡◌, ℕ, ◌+◌, List, [], ◌∷◌, ◌++◌, map, reverse, Option, Some, None, sym, subst, le_refl}
use Rattle.std.specs.Prelude.{slice_get}
use Rattle.std.specs.List.{AllByRecursion}
use Rattle.host_kit.specs.Fits.{ItemFits, ScriptFits}
use Rattle.host_kit.specs.declared.event.Event.TheVariants as events
use Rattle.host_kit.specs.declared.script.Item.{Item}
use Rattle.host_kit.specs.declared.script.Item.TheVariants.{Call, Host}
use Rattle.host_kit.specs.declared.script.Script.{Script}
use Rattle.wasm_ast.specs.declared.module.ty.FuncType.{FuncType}
use Rattle.wasm_ast.specs.declared.module.ty.Ty.{Ty}
use Rattle.wasm_ast.specs.declared.module.parts.Module.{Module}
use Rattle.typed_trees.specs.Contexts.{func_type}
use Rattle.typed_trees.specs.Modules.{context, TypedStart, TypedParts}
use Rattle.outcome_kit.specs.Outcome.{Done}
use Rattle.outcome_kit.specs.Code.{Go, Leave, go_on, stands}
use Rattle.evaluation_kit.specs.declared.jump.Jump.{Jump}
use Rattle.evaluation_kit.specs.declared.jump.Jump.TheVariants.{Branch, Return, Throw, TailCall, Trap, NoReply, Full, Stuck}
use Rattle.evaluation_kit.specs.Configurations.{World, Conf, PlainRes, Sem}
use Rattle.evaluation_kit.specs.Tasks.{Status, Task, Change, Enter, placed, plain_result, shown, task, tasks}
use Rattle.meaning_new.specs.declared.val.Val.{Val}
use Rattle.meaning_new.specs.Store.{Store, State, Exception, to_host, from_host}
use Rattle.meaning_new.specs.Host.{global_values}
use Rattle.meaning_new.specs.Instances.{place_segments}
use Rattle.meaning_new.specs.Runs.{instantiated, started, start_task, uncaught, answered, call_task, item_task, item_tasks, run_tasks}
use Rattle.soundness.specs.States.{made, Has, HaveTypes, StoreTyped, StateTyped, CallResultTyped}
use Rattle.soundness.specs.Laws.{Safe}
use Rattle.soundness.proofs.Lists.{IfAny, pair_whole, pair_reverse}
use Rattle.soundness.proofs.Values.{all_host_typed}
use Rattle.soundness.proofs.Judging.{FuncsSafe, safe_done, safe_bind}
use Rattle.soundness.proofs.Hosts.{told, act_typed}
use Rattle.soundness.proofs.Beginning.{segments_placed}

module _ (m : Module) where
  -- what a task leaves: a typed state, and it is not stuck
  abbrev pub Runs : {A : Type 0} → Status A → Type 0
  Runs (Leave Stuck a) = ⊥
  Runs r = Unit {0}

  pub record StatusTyped (r : Status State) : Type 0 where
    pub state : StateTyped m (stands r)
    pub runs : Runs r

  pub record WorldTyped (r : Status (World State)) : Type 0 where
    pub state : StateTyped m (stands r).state
    pub runs : Runs r

  placed_typed : (w : World State) (r : Status State) → StatusTyped r → WorldTyped (placed w r)
  placed_typed w (Go s) h = record { state = h.state; runs = tt }
  placed_typed w (Leave j s) h = record { state = h.state; runs = left j h.runs }
    where
      left : (j : Jump) → Runs {A = State} (Leave j s) → Runs {A = World State} (Leave j (record w { state = s }))
      left Stuck h = h
      left Trap h = h
      left (Branch i) h = h
      left Return h = h
      left (Throw e) h = h
      left (TailCall f) h = h
      left (NoReply x) h = h
      left Full h = h

  -- what is owed of a task
  pub record SeesTyped (results : List Ty) (see : PlainRes Val State → Status State) : Type 0 where
    pub by : (k : ℕ) (r : PlainRes Val State) → CallResultTyped m results k r → StatusTyped (see r)

  pub record ChangesTyped (f : State → Status State) : Type 0 where
    pub by : (s : State) → StateTyped m s → StatusTyped (f s)

  pub record EntersTyped (x : ℕ) (operands : List Val) (see : PlainRes Val State → Status State) : Type 0 where
    pub type : FuncType
    pub named : func_type (context m) x ≡ Some type
    pub operands_typed : (k : ℕ) → HaveTypes m k operands (reverse type.params)
    pub sees : SeesTyped type.results see

  abbrev pub TaskTyped : Task Val State → Type 0
  TaskTyped (Change f) = ChangesTyped f
  TaskTyped (Enter x operands see) = EntersTyped x operands see

  module _ (funcs others : ℕ → Sem Val State) (safe : (N : ℕ) → FuncsSafe m N funcs others) where
    task_safe : (t : Task Val State) → TaskTyped t → (n : ℕ) (w : World State) → StateTyped m w.state → Safe m WorldTyped (task funcs t n w) (task others t n w)
    task_safe (Change f) h n w s = safe_done m WorldTyped (placed w (f w.state)) (placed_typed w (f w.state) (h.by w.state s))
    task_safe (Enter x operands see) h n w s =
        let c : Conf Val State = record { operands = operands; locals = []; world = w } in
        safe_bind m (λ r. CallResultTyped m h.type.results (made w.state) (plain_result r)) WorldTyped n (funcs x 0 n c) (others x 0 n c) (λ r i. Done 0 (shown see r)) (λ r i. Done 0 (shown see r))
        ((safe n).by x h.type h.named 0 n c (le_refl n) (pair_whole (Has m (made w.state)) operands (reverse h.type.params) (h.operands_typed (made w.state))) s)
        (λ r i less q. safe_done m WorldTyped (shown see r) (placed_typed (stands r).world (see (plain_result r)) (h.sees.by (made w.state) (plain_result r) q)))

    pub tasks_safe : (ts : List (Task Val State)) → AllByRecursion TaskTyped ts → (n : ℕ) (w : World State) → StateTyped m w.state → Safe m WorldTyped (tasks funcs ts n w) (tasks others ts n w)
    tasks_safe [] h n w s = safe_done m WorldTyped (Go w) (record { state = s; runs = tt })
    tasks_safe (t ∷ ts) h n w s =
        safe_bind m WorldTyped WorldTyped n (task funcs t n w) (task others t n w) (go_on (tasks funcs ts)) (go_on (tasks others ts)) (task_safe t h.0 n w s)
        (λ r i less q. next r i q (λ v k. tasks_safe ts h.1 i v k))
      where
        next : (r : Status (World State)) (i : ℕ) → WorldTyped r → ((v : World State) → StateTyped m v.state → Safe m WorldTyped (tasks funcs ts i v) (tasks others ts i v)) → Safe m WorldTyped (go_on (tasks funcs ts) r i) (go_on (tasks others ts) r i)
        next (Go v) i q rest = rest v q.state
        next (Leave j v) i q rest = safe_done m WorldTyped (Leave j v) q

  -- "Instantiation", and the start function
  instantiates : TypedParts m → ChangesTyped (λ s. instantiated s (place_segments m s.store))
  instantiates parts = record { by = λ s h. at s h (place_segments m s.store) (segments_placed m parts s.store h.store) }
    where
      at : (s : State) → StateTyped m s → (o : Option Store) → IfAny (StoreTyped m) o → StatusTyped (instantiated s o)
      at s h None t = record { state = told m s events.Failed tt h; runs = tt }
      at s h (Some store) t = record { state = record { store = t; replies = h.replies; trace = h.trace }; runs = tt }

  starts : (results : List Ty) → SeesTyped results started
  starts results = record { by = at }
    where
      at : (k : ℕ) (r : PlainRes Val State) → CallResultTyped m results k r → StatusTyped (started r)
      at k (Go p) h = record { state = h.1.state; runs = tt }
      at k (Leave (NoReply x) p) h = record { state = told m p.state (events.NoReply x) tt h.1.state; runs = tt }
      at k (Leave Full p) h = record { state = told m p.state events.Full tt h.1.state; runs = tt }
      at k (Leave Stuck p) h = absurd h.0
      at k (Leave Trap p) h = record { state = told m p.state events.Failed tt h.1.state; runs = tt }
      at k (Leave (Throw e) p) h = record { state = told m p.state events.Failed tt h.1.state; runs = tt }
      at k (Leave (Branch i) p) h = absurd h.0
      at k (Leave Return p) h = absurd h.0
      at k (Leave (TailCall f) p) h = absurd h.0

  start_typed : (start : Option ℕ) (more : List (Task Val State)) → TypedStart m start → AllByRecursion TaskTyped more → AllByRecursion TaskTyped (start_task start ++ more)
  start_typed None more h rest = rest
  start_typed (Some x) more h rest =
      (record { type = h.type; named = h.declared; operands_typed = λ k. subst (λ l. HaveTypes m k [] (reverse l)) (sym h.params) tt; sees = starts h.type.results }, rest)

  -- items
  answers : (i : ℕ) (results : List Ty) → SeesTyped results (answered m i)
  answers i results = record { by = at }
    where
      escaped : (o : Option Exception) (s : State) → StateTyped m s → StateTyped m (uncaught m i o s)
      escaped None s h = told m s (events.Trapped i (global_values m s)) tt h
      escaped (Some x) s h = told m s (events.Uncaught i x.tag (map to_host (reverse x.payload)) (global_values m s)) tt h

      at : (k : ℕ) (r : PlainRes Val State) → CallResultTyped m results k r → StatusTyped (answered m i r)
      at k (Go p) h = record { state = told m p.state (events.Returned i (map to_host (reverse p.operands)) (global_values m p.state)) tt h.1.state; runs = tt }
      at k (Leave (NoReply x) p) h = record { state = told m p.state (events.NoReply x) tt h.1.state; runs = tt }
      at k (Leave Full p) h = record { state = told m p.state events.Full tt h.1.state; runs = tt }
      at k (Leave Stuck p) h = absurd h.0
      at k (Leave Trap p) h = record { state = told m p.state (events.Trapped i (global_values m p.state)) tt h.1.state; runs = tt }
      at k (Leave (Throw e) p) h = record { state = escaped (slice_get p.state.store.exceptions e) p.state h.1.state; runs = tt }
      at k (Leave (Branch j) p) h = absurd h.0
      at k (Leave Return p) h = absurd h.0
      at k (Leave (TailCall f) p) h = absurd h.0

  item_typed : (i : ℕ) (item : Item) → ItemFits m item → TaskTyped (item_task m i item)
  item_typed i (Call name arguments) fit =
      subst (λ d. TaskTyped (call_task m i d arguments)) (sym fit.offered)
      (record {
        type = fit.type;
        named = fit.typed;
        operands_typed = λ k. pair_reverse (Has m k) (map from_host arguments) fit.type.params (all_host_typed m k arguments fit.type.params fit.params);
        sees = answers i fit.type.results;
      })
  item_typed i (Host a) fit = record { by = λ s h. record { state = (act_typed m a s fit h).state; runs = tt } }

  items_typed : (i : ℕ) (items : List Item) → AllByRecursion (ItemFits m) items → AllByRecursion TaskTyped (item_tasks m i items)
  items_typed i [] fit = (record { by = λ s h. record { state = told m s events.Done tt h; runs = tt } }, tt)
  items_typed i (item ∷ more) fit = (item_typed i item fit.0, items_typed (i + 1) more fit.1)

  -- all that the host does
  pub script_typed : TypedParts m → (script : Script) → ScriptFits m script → AllByRecursion TaskTyped (run_tasks m script)
  script_typed parts script fit = (instantiates parts, start_typed m.start _ parts.start (record { by = λ s h. record { state = told m s events.Started tt h; runs = tt } }, items_typed 0 script.items fit.items))
